-- The registers on which a caller relies, as watches note them at a call.
use Rattle.std.proofs.Common.{◌≡◌, ◌↔◌, ℕ, zero, suc, ◌+◌, ◌*◌, ◌/◌, ◌%◌, ◌^◌, ◌<◌, ◌≤◌, nat_le, ◌==◌, Bool, true, false, ◌&&◌, ◌||◌, IsTrue, is_some, List, [], ◌∷◌, length, slice_get, slice_index, Option, None, Some, refl, ap, sym, ◌∙◌, arith, subst, if◌then◌else◌}
use Rattle.std.proofs.Math.Nat.{div-div-eq-div-mul}
use Rattle.std.proofs.lemmas.Bool.{and_from, le-leb, lt-ltb, or_right}
use Rattle.std.proofs.lemmas.List.FromFn.{get_or-range_with_len}
use Rattle.std.proofs.lemmas.Nat.{pow-add}
use Rattle.flow_points.specs.declared.code_points.CodePoint.{CodePoint}
use Rattle.frame_offsets.specs.Frames.{AreOffsets, HasOffset, IsOffset, offset_at}
use Rattle.rv_step.specs.Harts.{Hart}
use Rattle.run_paths.specs.Lifts.{Lift}
use Rattle.run_paths.specs.Activations.{Site, called}
use Rattle.run_paths.specs.Discipline.{IsRelied, is_saved}
use Rattle.run_watch.specs.Activations.{mask_of, relied_at, saved_registers}
use Rattle.run_watch.specs.Judges.{has_bit}

-- a bit of a set that is made item by item
halved : (b k rest : ℕ) → b ≤ 1 → (b + 2 * rest) / 2 ^ suc k % 2 ≡ rest / 2 ^ k % 2
halved b k rest small =
    let more : 2 ^ suc k ≡ 2 ^ 1 * 2 ^ k = ap (λ (n : ℕ). 2 ^ n) (let e : suc k ≡ 1 + k = omega arith in e) ∙ pow-add 2 1 k in
    let half : (b + 2 * rest) / 2 ^ 1 ≡ rest = omega (arith, small) in
    ap (λ (p : ℕ). (b + 2 * rest) / p % 2) more ∙ ap (λ (q : ℕ). q % 2) (sym (div-div-eq-div-mul (b + 2 * rest) (2 ^ 1) (2 ^ k)))
    ∙ ap (λ (q : ℕ). q / 2 ^ k % 2) half

one_bit : (t : Bool) → (if t then 1 else 0) ≤ 1
one_bit true = omega arith
one_bit false = omega arith

low_bit : (t : Bool) (rest : ℕ) → ((if t then 1 else 0) + 2 * rest) / 2 ^ 0 % 2 ≡ (if t then 1 else 0)
low_bit true rest = omega arith
low_bit false rest = omega arith

mask_bit : (test : ℕ → Bool) (items : List ℕ) (k : ℕ) → k < length items
    → mask_of test items / 2 ^ k % 2 ≡ (if test (slice_index items k) then 1 else 0)
mask_bit test [] k below = absurd (omega (arith, below))
mask_bit test (r ∷ items) zero below = low_bit (test r) (mask_of test items)
mask_bit test (r ∷ items) (suc k) below =
    halved (if test r then 1 else 0) k (mask_of test items) (one_bit (test r)) ∙ mask_bit test items k (omega (arith, below))

bit_set : (t : Bool) → ((if t then 1 else 0) == 1) ≡ t
bit_set true = refl
bit_set false = refl

mask_has : (test : ℕ → Bool) (k : ℕ) → k < 12 → has_bit (mask_of test saved_registers) k ≡ test (slice_index saved_registers k)
mask_has test k below =
    ap (λ (t : Bool). t && mask_of test saved_registers / 2 ^ k % 2 == 1) (lt-ltb k 16 (omega (arith, below)))
    ∙ ap (λ (bit : ℕ). bit == 1) (mask_bit test saved_registers k below) ∙ bit_set (test (slice_index saved_registers k))

record IsSavedAt (k : ℕ) : Type 0 where
  pub saved : is_saved (slice_index saved_registers k) ≡ true
  pub low : slice_index saved_registers k < 32

saved_at : (k : ℕ) → k < 12 → IsSavedAt k
saved_at zero low = record { saved = refl; low = omega arith }
saved_at (suc zero) low = record { saved = refl; low = omega arith }
saved_at (suc (suc k)) low = later k (omega (arith, low))
  where
    later : (j : ℕ) → j < 10 → IsSavedAt (suc (suc j))
    later j below =
        let is : slice_index saved_registers (suc (suc j)) ≡ 18 + j = get_or-range_with_len 18 10 j 0 below in record {
          saved = ap is_saved is
              ∙ or_right (18 + j == 8 || 18 + j == 9) (nat_le 18 (18 + j) && nat_le (18 + j) 27)
              (and_from (nat_le 18 (18 + j)) (nat_le (18 + j) 27) (le-leb 18 (18 + j) (omega arith))
              (le-leb (18 + j) 27 (omega (arith, below))));
          low = omega (arith, is, below);
        }

-- a register has an offset where one is found
offset_found : (points : List CodePoint) (c : CodePoint) (r : ℕ) (found : Option ℕ) → IsOffset points c r found
    → IsTrue (is_some found) ↔ ((o : ℕ) × HasOffset points c r o)
offset_found points c r None none =
    (λ some. let nothing : Option ℕ = None in let clash : is_some nothing ≡ true = some in cc, λ (o, has). absurd (none o has))
offset_found points c r (Some o) has = (λ some. (o, has), λ there. refl)

module _ (lift : Lift) (offsets : List (Option ℕ)) (are : AreOffsets lift.points.points offsets) (i : ℕ) (c : CodePoint)
    (at : slice_get lift.points.points i ≡ Some c) (target next : ℕ) (m : Hart) where
  pub relied_seen : (k : ℕ) → k < 12
      → IsTrue (has_bit (relied_at offsets i) k) ↔ IsRelied lift (called c target next m) (slice_index saved_registers k)
  relied_seen k low =
      let r = slice_index saved_registers k in
      let bit = mask_has (λ q. is_some (offset_at offsets i q)) k low in
      let is = saved_at k low in
      let found = offset_found lift.points.points c r (offset_at offsets i r) (are.exact i c r at is.low) in (
        λ set.
            let (o, has) = found.0 (sym bit ∙ set) in
            record { saved = is.saved; site = record { from = c; next = next }; is_call = refl; offset = o; has = has },
        λ relies.
            let site : Site = record { from = c; next = next } in
            let same : relies.site ≡ site = (let e = sym relies.is_call in cc e) in
            bit ∙ found.1 (
              relies.offset,
              subst (λ (from : CodePoint). HasOffset lift.points.points from r relies.offset)
                  (ap (λ (t : Site). t.from) same) relies.has,
            ),
      )
