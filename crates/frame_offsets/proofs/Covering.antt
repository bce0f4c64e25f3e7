-- What is known allows what a walk ends with.
use Rattle.std.proofs.Common.{◌≡◌, ℕ, ◌<◌, ℤ, Bool, true, false, eqb, if◌then◌else◌, Option, None, Some, option_map, refl, sym, ap, subst, ◌∙◌, arith, eqb-true}
use Rattle.flow_points.specs.Flows.{plus}
use Rattle.frame_offsets.specs.Frames.{at_entry, moved}
use Rattle.frame_offsets.specs.Tables.{Knows, known_at_entry, lost, known_moved, passed}
use Rattle.frame_offsets.specs.declared.known.Known.{Known}
use Rattle.frame_offsets.specs.declared.known.Known.TheVariants.{Unmet, Offset, Nothing}

-- it allows the offset that a walk ends with
abbrev pub Covers : Known → Option ℕ → Type 0
Covers Unmet v = ⊥
Covers (Offset o) v = v ≡ Some o
Covers Nothing v = Unit {0}

pub knows_covers : (s t : Known) (v : Option ℕ) → Knows s t → Covers t v → Covers s v
knows_covers Unmet t v e h = subst (λ (x : Known). Covers x v) e h
knows_covers (Offset m) Unmet v e h = absurd h
knows_covers (Offset m) (Offset n) v e h = by (eqb m n) refl e
  where
    by : (t : Bool) → eqb m n ≡ t → (if t then Offset m else Nothing) ≡ Offset m → v ≡ Some m
    by true is d = h ∙ ap Some (sym (eqb-true m n is))
    by false is d = cc
knows_covers (Offset m) Nothing v e h = cc
knows_covers Nothing t v e h = tt

pub entry_covers : (r : ℕ) → Covers (known_at_entry r) (at_entry r)
entry_covers r = by (eqb r 2)
  where
    by : (t : Bool) → Covers (if t then Offset 0 else Nothing) (if t then Some 0 else None)
    by true = refl
    by false = tt

moved_covers : (s : Known) (v : Option ℕ) (z : ℤ) → Covers s v → Covers (known_moved z s) (option_map (λ o. plus o z) v)
moved_covers Unmet v z h = absurd h
moved_covers (Offset o) v z h = ap (option_map (λ (n : ℕ). plus n z)) h
moved_covers Nothing v z h = tt

lost_covers : (s : Known) (v : Option ℕ) → Covers s v → Covers (lost s) None
lost_covers Unmet v h = absurd h
lost_covers (Offset o) v h = tt
lost_covers Nothing v h = tt

pub passed_covers : (source : Option (ℕ × ℤ)) (known : ℕ → Known) (offsets : ℕ → Option ℕ) → ((q : ℕ) → q < 32 → Covers (known q) (offsets q))
    → ((s : ℕ × ℤ) → source ≡ Some s → s.0 < 32) → Covers (passed source known) (moved source offsets)
passed_covers None known offsets h within = lost_covers (known 0) (offsets 0) (h 0 (omega arith))
passed_covers (Some s) known offsets h within = moved_covers (known s.0) (offsets s.0) s.1 (h s.0 (within s refl))
