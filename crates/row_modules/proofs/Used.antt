-- How many positions a list of rows uses.
use Rattle.std.proofs.Common.{◌≡◌, ℕ, zero, suc, ◌+◌, ◌-◌, ◌^◌, ◌<◌, ◌≤◌, inl, inr, Bool, true, false, not, ◌||◌, ◌==◌, List, [], ◌∷◌, Contains, slice_index, min, refl, ap, ◌∙◌, arith, if◌then◌else◌}
use Rattle.std.proofs.lemmas.Bool.{cases_eq, cases_lt, eq-eqb}
use Rattle.row_modules.specs.Bases.{is_used, used_positions}
use Rattle.row_modules.specs.Positions.{with_constant, IsZeroOutside}
use Rattle.row_modules.proofs.Lists.{contains_first, contains_later}
use Rattle.row_modules.proofs.Sets.{has_beyond, with_constant_other}

-- where each row is 0, no row isn't
pub is_used_none : (rows : List (List ℕ)) (k : ℕ) → ((v : List ℕ) → Contains rows v → slice_index v k ≡ 0) → is_used rows k ≡ false
is_used_none [] k zeros = refl
is_used_none (row ∷ rest) k zeros =
    let e : (slice_index row k == 0) ≡ true = eq-eqb (slice_index row k) 0 (zeros row (contains_first row rest)) in
    let h = is_used_none rest k (λ v i. zeros v (contains_later row rest v i)) in
    ap (λ b. not b || is_used rest k) e ∙ h

pub is_used_one : (rows : List (List ℕ)) (n : ℕ) → used_positions (suc n) rows ≤ used_positions n rows + 1
is_used_one rows n = at_most (is_used rows n)
  where
    at_most : (b : Bool) → used_positions n rows + (if b then 1 else 0) ≤ used_positions n rows + 1
    at_most true = omega arith
    at_most false = omega arith

-- the positions from `from` on, of which all but the first k and the one at 16 are 0
pub used_after : (rows : List (List ℕ)) (from k : ℕ) → k ≤ 16 → (n : ℕ) → n ≤ 17
    → ((l : ℕ) → l < n → k ≤ l → (l ≡ 16 → ⊥) → is_used rows (from + l) ≡ false)
    → used_positions (from + n) rows ≤ used_positions from rows + min n k + (n - 16)
used_after rows from k few zero short zeros = let e : from + 0 ≡ from = omega arith in rw e (omega arith)
used_after rows from k few (suc n) short zeros =
    let h = used_after rows from k few n (omega arith) (λ l below beyond ne. zeros l (omega arith) beyond ne) in
    let s : from + suc n ≡ suc (from + n) = omega arith in
    rw s (elim (cases_lt n k) [
      | inl named ↦ let one = is_used_one rows (from + n) in omega arith
      | inr beyond ↦ elim (cases_eq n 16) [
        | inl last ↦ let one = is_used_one rows (from + n) in omega arith
        | inr other ↦
            let none = zeros n (omega arith) beyond other in
            let e : used_positions (suc (from + n)) rows ≡ used_positions (from + n) rows + 0 = ap (λ (b : Bool). used_positions (from + n) rows + (if b then 1 else 0)) none in
            omega arith
      ]
    ])

-- rows that are 0 outside a set of positions below k, and the constant's, use at most k + 1 positions
pub few_used : (rows : List (List ℕ)) (k s : ℕ) → k ≤ 16 → s < 2 ^ k → ((v : List ℕ) → Contains rows v → IsZeroOutside (with_constant s) v)
    → used_positions 17 rows ≤ k + 1
few_used rows k s few small zeros =
    let h = used_after rows 0 k few 17 (omega arith) (λ l below beyond ne.
    is_used_none rows (0 + l) (λ v i. zeros v i (0 + l) (with_constant_other s (0 + l) (λ e. ne (omega arith)) ∙ has_beyond k s (0 + l) small (omega arith)))) in
    omega arith
