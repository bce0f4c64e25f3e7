-- Offsets one step back along a walk.
use Rattle.std.proofs.Common.{◌≡◌, ℕ, ℤ, List, ◌∷◌, Contains, Option, None, Some, option_map, refl, ap, sym, ◌∙◌}
use Rattle.flow_points.specs.Flows.{plus}
use Rattle.flow_points.specs.declared.code_points.CodePoint.{CodePoint}
use Rattle.frame_offsets.specs.Frames.{source_of, moved, offsets_after, goes_on, FrameWalk, HasOffset}
use Rattle.frame_offsets.proofs.Walking.{after_word, plus_apart, extended}

record Moved (source : Option (ℕ × ℤ)) (offsets : ℕ → Option ℕ) (to : ℕ) : Type 0 where
  pub from : ℕ × ℤ
  pub offset : ℕ
  pub is : source ≡ Some from
  pub has : offsets from.0 ≡ Some offset
  pub sum : plus offset from.1 ≡ to

moved_at : (s : ℕ × ℤ) (offsets : ℕ → Option ℕ) (found : Option ℕ) (to : ℕ) → offsets s.0 ≡ found
    → option_map (λ o. plus o s.1) found ≡ Some to → Moved (Some s) offsets to
moved_at s offsets None to is e = cc
moved_at s offsets (Some o) to is e = record { from = s; offset = o; is = refl; has = is; sum = cc }

moved_some : (source : Option (ℕ × ℤ)) (offsets : ℕ → Option ℕ) (to : ℕ) → moved source offsets ≡ Some to → Moved source offsets to
moved_some None offsets to e = cc
moved_some (Some s) offsets to e = moved_at s offsets (offsets s.0) to refl e

-- the register that gives r its offset, and the offset that it had
pub record Before (points : List CodePoint) (c : CodePoint) (r to : ℕ) : Type 0 where
  pub from : ℕ × ℤ
  pub offset : ℕ
  pub is : source_of c.instr c.flow r ≡ Some from
  pub has : HasOffset points c from.0 offset
  pub sum : plus offset from.1 ≡ to

pub offset_back : (points : List CodePoint) (c d : CodePoint) (walk : List CodePoint) (r to : ℕ) → FrameWalk points c.point.proc_entry walk c
    → Contains points d → Contains (goes_on c.point.proc_entry c.flow) d.point → HasOffset points d r to → Before points c r to
offset_back points c d walk r to walked within goes has =
    let along : (w : List CodePoint) → FrameWalk points c.point.proc_entry w c → Moved (source_of c.instr c.flow r) (offsets_after w) to
    = λ w h. moved_some (source_of c.instr c.flow r) (offsets_after w) to (has (c ∷ w) (extended points w c d h within goes)) in
    let here = along walk walked in
    record {
      from = here.from;
      offset = here.offset;
      is = here.is;
      sum = here.sum;
      has = λ w h.
          let there = along w h in
          let one : there.from ≡ here.from = cc in
          let found : offsets_after w here.from.0 ≡ Some there.offset = ap (λ (s : ℕ × ℤ). offsets_after w s.0) (sym one) ∙ there.has in
          let sums : plus there.offset here.from.1 ≡ plus here.offset here.from.1 =
          ap (λ (s : ℕ × ℤ). plus there.offset s.1) (sym one) ∙ there.sum ∙ sym here.sum in
          found ∙ ap Some (plus_apart there.offset here.offset here.from.1 (after_word w here.from.0 there.offset found)
          (after_word walk here.from.0 here.offset here.has) sums);
    }
