-- Causes by address and then by number.
use Rattle.std.proofs.Common.{◌≡◌, ℕ, ◌+◌, ◌*◌, ◌<◌, ◌≤◌, true, false, Option, IfSome, arith, ◌||◌, ◌&&◌, eqb, ltb, leb}
use Rattle.std.proofs.lemmas.Bool.Decides.{nat_tests}
use Rattle.flow_points.specs.Refusals.{number_of, address_of}
use Rattle.flow_points.specs.Causes.{is_sooner}
use Rattle.refusals.specs.declared.flow.FlowRefusal.{FlowRefusal}

pub rank : FlowRefusal → ℕ
rank c = 16 * address_of c + number_of c

number_below : (c : FlowRefusal) → number_of c < 16
number_below c = grind arith

pub rank_address : (a b : FlowRefusal) → rank a ≤ rank b → address_of a ≤ address_of b
unfolding rank
rank_address a b h = omega (arith, number_below a, number_below b)

pub rank_number : (a b : FlowRefusal) → rank a ≤ rank b → address_of b ≡ address_of a → number_of a ≤ number_of b
unfolding rank
rank_number a b h e = omega (arith, number_below a, number_below b)

before : (p q m n : ℕ) → (ltb p q || (eqb p q && leb m n)) ≡ true → m < 16 → n < 16 → 16 * p + m ≤ 16 * q + n
before p q m n e h k = grind (arith, nat_tests)

behind : (p q m n : ℕ) → (ltb p q || (eqb p q && leb m n)) ≡ false → m < 16 → n < 16 → 16 * q + n ≤ 16 * p + m
behind p q m n e h k = grind (arith, nat_tests)

pub sooner_rank : (a b : FlowRefusal) → is_sooner a b ≡ true → rank a ≤ rank b
unfolding rank
sooner_rank a b e = before (address_of a) (address_of b) (number_of a) (number_of b) e (number_below a) (number_below b)

pub later_rank : (a b : FlowRefusal) → is_sooner a b ≡ false → rank b ≤ rank a
unfolding rank
later_rank a b e = behind (address_of a) (address_of b) (number_of a) (number_of b) e (number_below a) (number_below b)

abbrev pub NotBefore : FlowRefusal → Option FlowRefusal → Type 0
NotBefore c o = IfSome o (λ b. rank c ≤ rank b)
