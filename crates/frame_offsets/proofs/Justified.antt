-- What is known, as walks justify it.
use Rattle.std.proofs.Common.{◌≡◌, ℕ, ◌<◌, ℤ, Bool, true, false, eqb, List, [], ◌∷◌, Contains, Option, None, Some, slice_get, refl, sym, ap, ◌∙◌, arith, if◌then◌else◌, eq-eqb}
use Rattle.std.proofs.lemmas.Bool.{true≢false}
use Rattle.flow_points.specs.Flows.{plus}
use Rattle.flow_points.specs.Walks.{point}
use Rattle.flow_points.specs.declared.code_points.CodePoint.{CodePoint}
use Rattle.frame_offsets.specs.Frames.{FrameWalk, begin, goes_on, moved, offsets_after, source_of}
use Rattle.frame_offsets.specs.Tables.{AreJustified, IsJustified, known_at_entry, joined, lost, known_moved, one, passed, passed_from, known_at, two}
use Rattle.frame_offsets.specs.declared.known.Known.{Known}
use Rattle.frame_offsets.specs.declared.known.Known.TheVariants.{Unmet, Offset, Nothing}
use Rattle.frame_offsets.proofs.Walking.{after_word, extended, plus_apart}

pub entry_is : (points : List CodePoint) (c : CodePoint) (r : ℕ) → Contains points c → c.point ≡ point c.point.proc_entry c.point.proc_entry
    → IsJustified points c r (known_at_entry r)
entry_is points c r at is = by (eqb r 2) refl
  where
    walk : FrameWalk points c.point.proc_entry [] c
    walk = begin [] c refl at is

    by : (t : Bool) → eqb r 2 ≡ t → IsJustified points c r (if t then Offset 0 else Nothing)
    by true e = ([], walk, ap (λ (b : Bool). if b then Some 0 else None) e)
    by false e = one [] walk (ap (λ (b : Bool). if b then Some 0 else None) e)

pub joined_is : (points : List CodePoint) (c : CodePoint) (r : ℕ) (a b : Known) → IsJustified points c r a → IsJustified points c r b
    → IsJustified points c r (joined a b)
joined_is points c r Unmet b h k = k
joined_is points c r (Offset m) Unmet h k = h
joined_is points c r (Offset m) (Offset n) h k = by (eqb m n) refl
  where
    by : (t : Bool) → eqb m n ≡ t → IsJustified points c r (if t then Offset m else Nothing)
    by true e = h
    by false e = two h.0 k.0 m n h.1 k.1 h.2 k.2 (λ same. true≢false (sym (eq-eqb m n same) ∙ e))
joined_is points c r (Offset m) Nothing h k = k
joined_is points c r Nothing Unmet h k = h
joined_is points c r Nothing (Offset n) h k = h
joined_is points c r Nothing Nothing h k = h

-- what is left by a point from which a walk goes on
module _ (points : List CodePoint) (c d : CodePoint) (at : Contains points d) (goes : Contains (goes_on c.point.proc_entry c.flow) d.point) where
  moved_is : (r q : ℕ) (z : ℤ) (s : Known) → source_of c.instr c.flow r ≡ Some (q, z) → IsJustified points c q s
      → IsJustified points d r (known_moved z s)
  moved_is r q z Unmet e h = tt
  moved_is r q z (Offset o) e h = (
    c ∷ h.0,
    extended points h.0 c d h.1 at goes,
    ap (λ source. moved source (offsets_after h.0)) e ∙ ap (λ (x : Option ℕ). moved (Some (q, z)) (λ _. x)) h.2,
  )
  moved_is r q z Nothing e (one walk walked none) =
      one (c ∷ walk) (extended points walk c d walked at goes)
      (ap (λ source. moved source (offsets_after walk)) e ∙ ap (λ (x : Option ℕ). moved (Some (q, z)) (λ _. x)) none)
  moved_is r q z Nothing e (two v w m n walked other is is' apart) =
      two (c ∷ v) (c ∷ w) (plus m z) (plus n z) (extended points v c d walked at goes) (extended points w c d other at goes)
      (ap (λ source. moved source (offsets_after v)) e ∙ ap (λ (x : Option ℕ). moved (Some (q, z)) (λ _. x)) is)
      (ap (λ source. moved source (offsets_after w)) e ∙ ap (λ (x : Option ℕ). moved (Some (q, z)) (λ _. x)) is')
      (λ same. apart (plus_apart m n z (after_word v q m is) (after_word w q n is') same))

  lost_is : (r : ℕ) (s : Known) → source_of c.instr c.flow r ≡ None → IsJustified points c 0 s → IsJustified points d r (lost s)
  lost_is r Unmet e h = tt
  lost_is r (Offset o) e h = one (c ∷ h.0) (extended points h.0 c d h.1 at goes) (ap (λ source. moved source (offsets_after h.0)) e)
  lost_is r Nothing e (one walk walked none) = one (c ∷ walk) (extended points walk c d walked at goes) (ap (λ source. moved source (offsets_after walk)) e)
  lost_is r Nothing e (two v w m n walked other is is' apart) =
      one (c ∷ v) (extended points v c d walked at goes) (ap (λ source. moved source (offsets_after v)) e)

  pub left_is : (table : List Known) (i r : ℕ) → AreJustified points table → slice_get points i ≡ Some c
      → ((q : ℕ) (z : ℤ) → source_of c.instr c.flow r ≡ Some (q, z) → q < 32) → IsJustified points d r (passed_from table i c r)
  left_is table i r are e within = by (source_of c.instr c.flow r) refl
    where
      by : (source : Option (ℕ × ℤ)) → source_of c.instr c.flow r ≡ source → IsJustified points d r (passed source (known_at table i))
      by None is = lost_is r (known_at table i 0) is (are.each i c 0 e (omega arith))
      by (Some source) is = moved_is r source.0 source.1 (known_at table i source.0) is (are.each i c source.0 e (within source.0 source.1 is))

pub one_item : (points : List CodePoint) (i j : ℕ) (c d : CodePoint) → i ≡ j → slice_get points i ≡ Some c → slice_get points j ≡ Some d → c ≡ d
one_item points i j c d e f g = let same = ap (slice_get points) e in cc
