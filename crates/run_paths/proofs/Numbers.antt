-- Words computed by the machine, and by the effects of instructions.
use Rattle.std.proofs.Common.{◌≡◌, ℕ, zero, suc, ◌+◌, ◌-◌, ◌*◌, ◌%◌, ◌^◌, ◌<◌, ◌≤◌, nat_lt, ℤ, pos, negsuc, ◌+ℤ◌, ◌-ℤ◌, Bool, true, false, cond, refl, ap, ◌∙◌, arith}
use Rattle.std.specs.Int.{cast_signed, cast_unsigned, w32, w64}
use Rattle.std.proofs.lemmas.Bool.{ltb-true, ltb-false}
use Rattle.flow_points.specs.Flows.{plus}
use Rattle.rv_step.specs.Words as machine
use Rattle.rv_step.specs.Results as results
use Rattle.affine_lift.specs.Values as lifted

-- a signed number of few bits
abbrev pub IsShort : ℤ → Type 0
IsShort (pos n) = n < 2 ^ 63
IsShort (negsuc n) = n < 2 ^ 63

pub word_is : (z : ℤ) → IsShort z → machine.word z ≡ cast_unsigned w64 z
word_is (pos n) short = omega arith
word_is (negsuc n) short = omega arith

less_word : (t : Bool) (a b : ℕ) → nat_lt a b ≡ t → a < 2 ^ 64 → b ≤ 2 ^ 64
    → machine.word (cond t (negsuc (b - suc a)) (pos (a - b))) ≡ (a + (2 ^ 64 - b)) % 2 ^ 64
less_word true a b is small fits = let less = ltb-true a b is in omega arith
less_word false a b is small fits = let most = ltb-false a b is in omega arith

-- an address and an immediate
pub sum_word : (a : ℕ) (z : ℤ) → a < 2 ^ 64 → IsShort z → machine.word (pos a +ℤ z) ≡ plus a z
sum_word a (pos n) small short = refl
sum_word a (negsuc n) small short = less_word (nat_lt a (suc n)) a (suc n) refl small (omega arith)

pub difference_word : (a b : ℕ) → a < 2 ^ 64 → b < 2 ^ 64 → machine.word (pos a -ℤ pos b) ≡ (a + (2 ^ 64 - b)) % 2 ^ 64
difference_word a zero small fits = omega arith
difference_word a (suc n) small fits = less_word (nat_lt a (suc n)) a (suc n) refl small (omega arith)

short_low : (m : ℕ) → m < 2 ^ 32 → IsShort (cast_signed w32 m)
short_low m small = by (nat_lt m (2 ^ 31)) refl
  where
    by : (t : Bool) → nat_lt m (2 ^ 31) ≡ t → IsShort (cond t (pos m) (negsuc (2 ^ 32 - suc m)))
    by true is = omega arith
    by false is = omega arith

pub upper_word : (imm : ℕ) → results.upper imm ≡ lifted.upper imm
upper_word imm =
    let once : imm * 2 ^ 12 % 2 ^ 32 % 2 ^ 32 ≡ imm * 2 ^ 12 % 2 ^ 32 = omega arith in
    ap (λ (m : ℕ). machine.word (cast_signed w32 m)) once
    ∙ word_is (cast_signed w32 (imm * 2 ^ 12 % 2 ^ 32)) (short_low (imm * 2 ^ 12 % 2 ^ 32) (omega arith))
