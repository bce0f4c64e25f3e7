-- A basis of a module within another's is no longer than a basis of that one.
use Rattle.std.proofs.Common.{◌≡◌, ℕ, ◌+◌, ◌-◌, ◌*◌, ◌^◌, ◌<◌, ◌≤◌, inl, inr, zero, suc, List, [], ◌∷◌, Contains, get_or, slice_index, ap, sym, ◌∙◌, arith}
use Rattle.std.specs.Int.{w64, trailing_zeros}
use Rattle.std.proofs.lemmas.Bool.{cases_lt}
use Rattle.std.proofs.lemmas.Nat.{pow_pos, pow_below}
use Rattle.word_rows.specs.Rows.{lead, pivot}
use Rattle.word_rows.proofs.Laws.{get_or_before_lead}
use Rattle.row_modules.specs.Modules.{IsCombination, IsWithin}
use Rattle.row_modules.specs.Bases.{IsLeadingBasis, basis_length}
use Rattle.row_modules.proofs.Laws.{generator, contains_first, first_or_later}
use Rattle.lead_basis.proofs.Powers.{exponent}
use Rattle.lead_basis.proofs.Positions.{zero_at, zero_to}
use Rattle.lead_basis.proofs.Leading.{basis_rows, rest_zero, pivot_divides, drop_first}
use Rattle.lead_basis.proofs.Remains.{empty_span}
use Rattle.lead_basis.proofs.Between.{later_within}
use Rattle.lead_basis.proofs.Uniqueness.{no_rows}

-- a member is 0 before the first lead
zero_before : (n : ℕ) (x : List ℕ) (xs : List (List ℕ)) → IsLeadingBasis n (x ∷ xs) → (v : List ℕ) → IsCombination n (Contains (x ∷ xs)) v → (k : ℕ) → k < lead x → slice_index v k ≡ 0
zero_before n x xs b v m k before =
    zero_at n k (Contains (x ∷ xs)) (basis_rows n (x ∷ xs) b)
    (λ u h. elim (first_or_later x xs u h) [ inl e ↦ rw e (get_or_before_lead x k before) | inr j ↦ zero_to (lead x) xs b.0.later k (omega arith) u j ]) v m

no_less : (a b m : ℕ) → a < 64 → 2 ^ a ≡ m * 2 ^ b → b ≤ a
no_less a b zero small e = let p = pow_pos a in let z : 0 * 2 ^ b ≡ 0 = omega arith in absurd (omega arith)
no_less a b (suc m) small e = elim (cases_lt a b) [
  | inl lt ↦ let h = pow_below a b lt in let s : suc m * 2 ^ b ≡ m * 2 ^ b + 2 ^ b = omega arith in absurd (omega arith)
  | inr ge ↦ ge
]

module _ (n : ℕ) (x y : List ℕ) (xs ys : List (List ℕ)) (b : IsLeadingBasis n (x ∷ xs)) (c : IsLeadingBasis n (y ∷ ys)) (within : IsWithin n (Contains (x ∷ xs)) (Contains (y ∷ ys))) where
  first_in : IsCombination n (Contains (y ∷ ys)) x
  first_in = within x (generator n (Contains (x ∷ xs)) (basis_rows n (x ∷ xs) b) x (contains_first x xs))

  no_earlier : lead y ≤ lead x
  no_earlier = elim (cases_lt (lead x) (lead y)) [
    | inl lt ↦ let z = zero_before n y ys c x first_in (lead x) lt in let p = b.0.is_pivot in let s = pow_pos b.0.power in absurd (omega arith)
    | inr ge ↦ ge
  ]

  all_later : lead y < lead x → IsWithin n (Contains (x ∷ xs)) (Contains ys)
  all_later lt v m =
      drop_first n y ys c.0 (basis_rows n ys c.1) v (within v m) (zero_before n x xs b v m (lead y) lt)

  rest_later : lead x ≡ lead y → IsWithin n (Contains xs) (Contains ys)
  rest_later same v m =
      drop_first n y ys c.0 (basis_rows n ys c.1) v (within v (later_within n x xs v m)) (rest_zero n x xs b.0 (basis_rows n xs b.1) v m (lead y) (omega arith))

  first_shorter : lead x ≡ lead y → 64 - trailing_zeros w64 (pivot x) ≤ 64 - trailing_zeros w64 (pivot y)
  first_shorter same =
      let d = pivot_divides n y ys c.0 (basis_rows n ys c.1) x first_in in
      let e : 2 ^ b.0.power ≡ d.0 * 2 ^ c.0.power = sym b.0.is_pivot ∙ ap (λ (k : ℕ). get_or x k 0) same ∙ d.1 in
      let h = no_less b.0.power c.0.power d.0 b.0.small e in
      let t = ap (λ (p : ℕ). trailing_zeros w64 p) b.0.is_pivot ∙ exponent b.0.power b.0.small in
      let u = ap (λ (p : ℕ). trailing_zeros w64 p) c.0.is_pivot ∙ exponent c.0.power c.0.small in
      omega arith

pub length_within : (n : ℕ) (xs ys : List (List ℕ)) → IsLeadingBasis n xs → IsLeadingBasis n ys → IsWithin n (Contains xs) (Contains ys) → basis_length xs ≤ basis_length ys
length_within n [] ys b c within = omega arith
length_within n (x ∷ xs) [] b c within =
    let e = ap basis_length (no_rows n (x ∷ xs) b (λ v m. empty_span n v (within v m))) in omega arith
length_within n (x ∷ xs) (y ∷ ys) b c within = elim (cases_lt (lead y) (lead x)) [
  | inl lt ↦ let h = length_within n (x ∷ xs) ys b c.1 (all_later n x y xs ys b c within lt) in omega arith
  | inr ge ↦
      let f = no_earlier n x y xs ys b c within in
      let same : lead x ≡ lead y = omega arith in
      let h = length_within n xs ys b.1 c.1 (rest_later n x y xs ys b c within same) in
      let k = first_shorter n x y xs ys b c within same in
      omega arith
]
