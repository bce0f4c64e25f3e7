-- A module has one reduced basis.
use Rattle.std.proofs.Common.{◌≡◌, ℕ, zero, suc, ◌+◌, ◌-◌, ◌*◌, ◌^◌, ◌<◌, ◌≤◌, inl, inr, List, [], ◌∷◌, length, All, Contains, slice_index, replicate, refl, ap, ap₂, sym, subst, ◌∙◌, arith}
use Rattle.std.proofs.Math.Nat.{mul-mod_right}
use Rattle.std.proofs.lemmas.Nat.{pow_pos}
use Rattle.word_rows.specs.Words.{word}
use Rattle.word_rows.specs.Rows.{words_of, plus, lead, pivot}
use Rattle.word_rows.proofs.Laws.{get_or_before_lead, lead-after, lead-zeros}
use Rattle.row_modules.specs.Modules.{IsCombination, IsWithin, SameModule}
use Rattle.row_modules.specs.Bases.{IsLeadingBasis, IsReduced}
use Rattle.row_modules.proofs.Laws.{combination_sum, combination_is_row, generator}
use Rattle.row_modules.proofs.Laws.{contains_first, first_or_later}
use Rattle.lead_basis.proofs.Positions.{index_of_sum, take_back, zero_at, zero_to}
use Rattle.lead_basis.proofs.Leading.{basis_rows, rest_zero, pivot_divides, drop_first}
use Rattle.lead_basis.proofs.Remains.{empty_span, same_remainder}
use Rattle.lead_basis.proofs.Between.{later_within}

-- a sum has no order
plus_turned : (v w : List ℕ) → plus 1 v w ≡ plus 1 w v
plus_turned [] [] = refl
plus_turned [] (w ∷ ws) = refl
plus_turned (v ∷ vs) [] = refl
plus_turned (v ∷ vs) (w ∷ ws) = let h = plus_turned vs ws in let e : v + 1 * w ≡ w + 1 * v = omega arith in cc

multiple_ge : (a b m : ℕ) → a ≡ m * b → 0 < a → b ≤ a
multiple_ge a b zero e some = absurd (let z : 0 * b ≡ 0 = omega arith in omega arith)
multiple_ge a b (suc m) e some = let s : suc m * b ≡ m * b + b = omega arith in omega arith

-- no row of a basis is zero, so a basis that spans nothing has none
pub no_rows : (n : ℕ) (rows : List (List ℕ)) → IsLeadingBasis n rows → ((v : List ℕ) → IsCombination n (Contains rows) v → v ≡ replicate n 0) → rows ≡ []
no_rows n [] b h = refl
no_rows n (row ∷ rest) b h =
    let z = h row (generator n (Contains (row ∷ rest)) (basis_rows n (row ∷ rest) b) row (contains_first row rest)) in
    let e = ap lead z ∙ lead-zeros n in
    let i = b.0.within in absurd (omega arith)

-- a member has no earlier lead than the first row
pub first_lead : (n : ℕ) (row : List ℕ) (rest : List (List ℕ)) → IsLeadingBasis n (row ∷ rest) → (v : List ℕ) → IsCombination n (Contains (row ∷ rest)) v → lead row ≤ lead v
first_lead n row rest b v m =
    let rows = basis_rows n (row ∷ rest) b in
    let w = (combination_is_row n (Contains (row ∷ rest)) rows v m).width in
    let i = b.0.within in
    lead-after v (lead row) (omega arith)
    (λ k lt. zero_at n k (Contains (row ∷ rest)) rows
    (λ u h. elim (first_or_later row rest u h) [ inl e ↦ rw e (get_or_before_lead row k lt) | inr j ↦ zero_to (lead row) rest b.0.later k (omega arith) u j ]) v m)

module _ (n : ℕ) (x y : List ℕ) (xs ys : List (List ℕ)) (b : IsLeadingBasis n (x ∷ xs)) (c : IsLeadingBasis n (y ∷ ys)) (same : SameModule n (Contains (x ∷ xs)) (Contains (y ∷ ys))) where
  second_in : IsCombination n (Contains (x ∷ xs)) y
  second_in = same.back y (generator n (Contains (y ∷ ys)) (basis_rows n (y ∷ ys) c) y (contains_first y ys))

  first_in : IsCombination n (Contains (y ∷ ys)) x
  first_in = same.there x (generator n (Contains (x ∷ xs)) (basis_rows n (x ∷ xs) b) x (contains_first x xs))

  same_leads : lead x ≡ lead y
  same_leads = let p = first_lead n x xs b y second_in in let q = first_lead n y ys c x first_in in omega arith

  same_pivots : pivot x ≡ pivot y
  same_pivots =
      let d = pivot_divides n x xs b.0 (basis_rows n xs b.1) y second_in in
      let e = pivot_divides n y ys c.0 (basis_rows n ys c.1) x first_in in
      let p = b.0.is_pivot in let q = c.0.is_pivot in
      let f : pivot y ≡ d.0 * 2 ^ b.0.power = ap (λ (k : ℕ). slice_index y k) (sym same_leads) ∙ d.1 in
      let g : pivot x ≡ e.0 * 2 ^ c.0.power = ap (λ (k : ℕ). slice_index x k) same_leads ∙ e.1 in
      let i = pow_pos b.0.power in let j = pow_pos c.0.power in
      let h = multiple_ge (pivot y) (2 ^ b.0.power) d.0 f (omega arith) in
      let k = multiple_ge (pivot x) (2 ^ c.0.power) e.0 g (omega arith) in
      omega arith

  -- the later rows span the members that are 0 at the lead, on both sides
  pub later_there : IsWithin n (Contains xs) (Contains ys)
  later_there v m =
      let z = rest_zero n x xs b.0 (basis_rows n xs b.1) v m (lead x) (omega arith) in
      drop_first n y ys c.0 (basis_rows n ys c.1) v (same.there v (later_within n x xs v m)) (ap (λ (k : ℕ). slice_index v k) (sym same_leads) ∙ z)

  difference_in : IsCombination n (Contains xs) (words_of (plus (2 ^ 64 - 1) x y))
  difference_in =
      let rows = basis_rows n (x ∷ xs) b in
      let m = combination_sum n (Contains (x ∷ xs)) rows (2 ^ 64 - 1) x y (generator n (Contains (x ∷ xs)) rows x (contains_first x xs)) second_in in
      let here : slice_index y (lead x) ≡ pivot x = ap (λ (k : ℕ). slice_index y k) same_leads ∙ sym same_pivots in
      let s : pivot x + (2 ^ 64 - 1) * pivot x ≡ 2 ^ 64 * pivot x = omega arith in
      let z = index_of_sum n (2 ^ 64 - 1) x y (lead x) b.0.is_row c.0.is_row ∙ ap (λ (k : ℕ). word (pivot x + (2 ^ 64 - 1) * k)) here ∙ ap word s ∙ mul-mod_right (2 ^ 64) (pivot x) in
      drop_first n x xs b.0 (basis_rows n xs b.1) (words_of (plus (2 ^ 64 - 1) x y)) m z

  pub same_firsts : IsReduced (x ∷ xs) → IsReduced (y ∷ ys) → xs ≡ ys → x ≡ y
  same_firsts r s e =
      let below = subst (λ (rows : List (List ℕ)). All (λ r. slice_index y (lead r) < pivot r) rows) (sym e) s.0 in
      let sum : x ≡ words_of (plus 1 y (words_of (plus (2 ^ 64 - 1) x y))) =
      sym (take_back n 1 (2 ^ 64 - 1) x y b.0.is_row c.0.is_row refl) ∙ ap words_of (plus_turned (words_of (plus (2 ^ 64 - 1) x y)) y) in
      same_remainder n xs x y (words_of (plus (2 ^ 64 - 1) x y)) b.1 b.0.is_row c.0.is_row r.0 below difference_in sum

pub turned : (n : ℕ) (P Q : List ℕ → Type 0) → SameModule n P Q → SameModule n Q P
turned n P Q s = record { there = s.back; back = s.there }

pub transitive : (n : ℕ) (P Q R : List ℕ → Type 0) → SameModule n P Q → SameModule n Q R → SameModule n P R
transitive n P Q R s t = record { there = λ v m. t.there v (s.there v m); back = λ v m. s.back v (t.back v m) }

pub unique_reduced : (n : ℕ) (xs ys : List (List ℕ)) → IsLeadingBasis n xs → IsLeadingBasis n ys → IsReduced xs → IsReduced ys → SameModule n (Contains xs) (Contains ys) → xs ≡ ys
unique_reduced n [] [] b c r s same = refl
unique_reduced n [] (y ∷ ys) b c r s same = sym (no_rows n (y ∷ ys) c (λ v m. empty_span n v (same.back v m)))
unique_reduced n (x ∷ xs) [] b c r s same = no_rows n (x ∷ xs) b (λ v m. empty_span n v (same.there v m))
unique_reduced n (x ∷ xs) (y ∷ ys) b c r s same =
    let e = unique_reduced n xs ys b.1 c.1 r.1 s.1 (record { there = later_there n x y xs ys b c same; back = later_there n y x ys xs c b (turned n (Contains (x ∷ xs)) (Contains (y ∷ ys)) same) }) in
    ap₂ (λ (row : List ℕ) (rows : List (List ℕ)). row ∷ rows) (same_firsts n x y xs ys b c same r s e) e

-- bases of one module have as many rows
pub as_many_rows : (n : ℕ) (xs ys : List (List ℕ)) → IsLeadingBasis n xs → IsLeadingBasis n ys → SameModule n (Contains xs) (Contains ys) → length xs ≡ length ys
as_many_rows n [] [] b c same = refl
as_many_rows n [] (y ∷ ys) b c same = ap length (sym (no_rows n (y ∷ ys) c (λ v m. empty_span n v (same.back v m))))
as_many_rows n (x ∷ xs) [] b c same = ap length (no_rows n (x ∷ xs) b (λ v m. empty_span n v (same.there v m)))
as_many_rows n (x ∷ xs) (y ∷ ys) b c same =
    ap (λ (k : ℕ). suc k)
    (as_many_rows n xs ys b.1 c.1 (record { there = later_there n x y xs ys b c same; back = later_there n y x ys xs c b (turned n (Contains (x ∷ xs)) (Contains (y ∷ ys)) same) }))
