-- Sets of positions of names.
use Rattle.std.proofs.Common.{◌≡◌, ℕ, zero, suc, refl, ◌+◌, ◌*◌, ◌^◌, ◌<◌, Bool, true, false, cond, List, [], ◌∷◌, ◌++◌, length, take, get_or, ◌≤◌, ◌%◌, ◌∙◌, ap, sym, pow-suc, arith}
use Rattle.std.proofs.Math.Nat.{mod-eq_of_lt}
use Rattle.std.proofs.lemmas.List.{take_more, length-take}
use Rattle.std.proofs.Math.Pow.{pow_mono}
use Rattle.std.specs.Int.{from_bool}
use Rattle.report_text.specs.declared.names.Name.{Name}
use Rattle.affine_lift.specs.Lifting.{positions_where}

-- the set with one more name
pub positions_push : (test : Name → Bool) (names : List Name) (name : Name)
    → positions_where test (names ++ name ∷ []) ≡ positions_where test names + cond (test name) 1 0 * 2 ^ length names
positions_push test [] name = omega arith
positions_push test (first ∷ names) name =
    let rest = positions_push test names name in
    rw (pow-suc 2 (length names)) (omega arith)

bit_small : (b : Bool) → cond b 1 0 < 2
bit_small true = omega arith
bit_small false = omega arith

pub positions_below : (test : Name → Bool) (names : List Name) → positions_where test names < 2 ^ length names
positions_below test [] = omega arith
positions_below test (name ∷ names) =
    let rest = positions_below test names in
    let bit = bit_small (test name) in
    let twice = pow-suc 2 (length names) in
    omega arith

byte_is : (b : Bool) → from_bool b ≡ cond b 1 0
byte_is true = refl
byte_is false = refl

-- the sum that a loop over the names makes
pub positions_step : (test : Name → Bool) (names : List Name) (i : ℕ) (d : Name) (bit : ℕ) → i < length names → length names ≤ 16
    → bit ≡ from_bool (test (get_or names i d))
    → positions_where test (take i names) + bit * 2 ^ i % 65536 ≡ positions_where test (take (i + 1) names)
positions_step test names i d bit below few is =
    let same = is ∙ byte_is (test (get_or names i d)) in
    let one : bit < 2 = rw same (bit_small (test (get_or names i d))) in
    let low : 2 ^ i ≤ 2 ^ 15 = pow_mono {i = i} {j = 15} (omega arith) in
    let fits : bit * 2 ^ i < 65536 = small bit (2 ^ i) one low in
    let size : length (take i names) ≡ i = omega (arith, length-take i names) in
    ap (λ (n : ℕ). positions_where test (take i names) + n) (mod-eq_of_lt fits)
    ∙ ap (λ (n : ℕ). positions_where test (take i names) + n * 2 ^ i) same
    ∙ sym (rw (take_more names i d below, positions_push test (take i names) (get_or names i d), size) refl)
  where
    small : (b p : ℕ) → b < 2 → p ≤ 32768 → b * p < 65536
    small zero p h k = omega arith
    small (suc zero) p h k = omega arith
    small (suc (suc b)) p h k = absurd (omega arith)

pub positions_fit : (test : Name → Bool) (names : List Name) → length names ≤ 16 → positions_where test names < 65536
positions_fit test names few =
    let low = positions_below test names in
    let most : 2 ^ length names ≤ 2 ^ 16 = pow_mono {i = length names} {j = 16} few in
    omega arith
