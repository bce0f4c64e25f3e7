-- The points of a made file.
use Rattle.std.proofs.Common.{◌≡◌, ℕ, ◌+◌, ◌-◌, ◌*◌, ◌/◌, ◌<◌, ◌≤◌, ap, sym, subst, ◌∙◌, arith, ap₂}
use Rattle.flow_points.specs.Walks.{point}
use Rattle.flow_points.specs.declared.code_points.Point.{Point}
use Rattle.gen_elf.specs.Generated.{address_of}
use Rattle.made_files.proofs.SmallFetches.{address}
use Rattle.made_files.proofs.MadeCode.{place}

-- the points of the start, and of each procedure
pub data IsMadePoint (n : ℕ) (p : Point) : Type 0 where
  in_start : (k : ℕ) → k < 3 → p ≡ point (address 0) (address k) → IsMadePoint n p
  in_procedure : (i j : ℕ) → 1 ≤ i → i ≤ n → j < 8 → p ≡ point (address_of i) (address_of i + 4 * j) → IsMadePoint n p

-- the number of its word
abbrev pub number : Point → ℕ
number p = (p.address - address 0) / 4

address_at : (p q : Point) → p ≡ q → p.address ≡ q.address
address_at p q e = ap (λ (r : Point). r.address) e

pub number_below : (n : ℕ) (p : Point) → IsMadePoint n p → number p < 3 + 8 * n
number_below n p (in_start k low is) = omega (arith, address_at _ _ is, low)
number_below n p (in_procedure i j some most low is) = omega (arith, address_at _ _ is, some, most, low)

pub one_number : (n : ℕ) (p q : Point) → IsMadePoint n p → IsMadePoint n q → number p ≡ number q → p ≡ q
one_number n p q (in_start k low is) (in_start l low' is') e =
    let same : k ≡ l = omega (arith, e, address_at _ _ is, address_at _ _ is', low, low') in
    is ∙ ap (λ (m : ℕ). point (address 0) (address m)) same ∙ sym is'
one_number n p q (in_start k low is) (in_procedure i j some most low' is') e =
    absurd (omega (arith, e, address_at _ _ is, address_at _ _ is', low, some))
one_number n p q (in_procedure i j some most low is) (in_start k low' is') e =
    absurd (omega (arith, e, address_at _ _ is, address_at _ _ is', low', some))
one_number n p q (in_procedure i j some most low is) (in_procedure i' j' some' most' low' is') e =
    let same : i ≡ i' = omega (arith, e, address_at _ _ is, address_at _ _ is', low, low', some, some') in
    let too : j ≡ j' = omega (arith, e, address_at _ _ is, address_at _ _ is', low, low', some, some') in
    is ∙ ap₂ (λ (m l : ℕ). point (address_of m) (address_of m + 4 * l)) same too ∙ sym is'

pub at_place : (i j : ℕ) → 1 ≤ i → address (place i j) ≡ address_of i + 4 * j
at_place i j some = omega (arith, some)
