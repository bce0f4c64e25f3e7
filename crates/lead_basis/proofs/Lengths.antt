-- The length of a basis, and the positions that its rows use.
use Rattle.std.proofs.Common.{◌≡◌, ◌≢◌, ℕ, zero, suc, ◌+◌, ◌-◌, ◌*◌, ◌<◌, ◌≤◌, inl, inr, Bool, true, false, not, ◌||◌, ◌==◌, List, [], ◌∷◌, length, All, Contains, get_or, slice_index, drop, refl, ap, sym, ◌∙◌, arith, add-one, if◌then◌else◌}
use Rattle.std.specs.Int.{w64, trailing_zeros}
use Rattle.std.proofs.Math.Dec.{eqb-suc-zero}
use Rattle.std.proofs.lemmas.Bool.{cases_lt, cases_eq, false≢true, true_from_ne_false}
use Rattle.std.proofs.Math.Seq.{drop-cons}
use Rattle.std.proofs.lemmas.List.Elements.{All-head}
use Rattle.word_rows.specs.Rows.{lead, pivot}
use Rattle.word_rows.proofs.Laws.{get_or_at_lead}
use Rattle.row_modules.specs.Bases.{IsLeadingBasis, basis_length, is_used, used_positions}
use Rattle.row_modules.specs.Modules.{AreRows, IsWithin}
use Rattle.lead_basis.proofs.Positions.{zero_at}
use Rattle.lead_basis.proofs.Leading.{basis_rows}
use Rattle.row_modules.proofs.Laws.{generator, contains_first, contains_later, first_or_later, nothing_contained}

other_word : (x : ℕ) (b : Bool) → x ≢ 0 → not (x == 0) || b ≡ true
other_word zero b ne = absurd (ne refl)
other_word (suc x) b ne = rw eqb-suc-zero refl

or_true : (b : Bool) → b || true ≡ true
or_true true = refl
or_true false = refl

-- a position where a row of the list isn't 0 is used
is_used_at : (rows : List (List ℕ)) (k : ℕ) (v : List ℕ) → Contains rows v → slice_index v k ≢ 0 → is_used rows k ≡ true
is_used_at [] k v h ne = absurd (nothing_contained v h)
is_used_at (row ∷ rest) k v h ne = elim (first_or_later row rest v h) [
  | inl e ↦ other_word (slice_index row k) (is_used rest k) (rw e at ne)
  | inr j ↦ let t = is_used_at rest k v j ne in rw t (or_true (not (slice_index row k == 0)))
]

at_most_one : (b : Bool) → (if b then 1 else 0) ≤ 1
at_most_one true = omega arith
at_most_one false = omega arith

used_le : (rows : List (List ℕ)) (i n : ℕ) → i ≤ n → used_positions i rows ≤ used_positions n rows
used_le rows i zero le = let e : i ≡ 0 = omega arith in rw e (omega arith)
used_le rows i (suc n) le = elim (cases_lt n i) [
  | inl lt ↦ let e : i ≡ suc n = omega arith in rw e (omega arith)
  | inr ge ↦ let h = used_le rows i n ge in omega arith
]

used_below : (n : ℕ) (rows : List (List ℕ)) → used_positions n rows ≤ n
used_below zero rows = omega arith
used_below (suc n) rows = let h = used_below n rows in let b = at_most_one (is_used rows n) in omega arith

-- a basis has no more rows than positions that are used where its words aren't 0
rows_use : (n : ℕ) (all rows : List (List ℕ)) (l : ℕ) → IsLeadingBasis n rows → ((v : List ℕ) → Contains rows v → (k : ℕ) → slice_index v k ≢ 0 → is_used all k ≡ true) → All (λ r. l ≤ lead r) rows → l ≤ n → length rows + used_positions l all ≤ used_positions n all
rows_use n all [] l b seen later le = let h = used_le all l n le in omega arith
rows_use n all (row ∷ rest) l b seen later le =
    let w = b.0.is_row.width in let i = b.0.within in
    let t = seen row (contains_first row rest) (lead row) (get_or_at_lead row (omega arith)) in
    let one : used_positions (suc (lead row)) all ≡ used_positions (lead row) all + 1 = ap (λ (x : Bool). used_positions (lead row) all + (if x then 1 else 0)) t in
    let first = All-head (λ r. l ≤ lead r) row rest later in
    let before = used_le all l (lead row) first in
    let h = rows_use n all rest (suc (lead row)) b.1 (λ v j. seen v (contains_later row rest v j)) b.0.later i in
    omega arith

-- each row adds at most 64
length_of_rows : (rows : List (List ℕ)) → basis_length rows ≤ 64 * length rows
length_of_rows [] = omega arith
length_of_rows (row ∷ rest) = let h = length_of_rows rest in omega arith

length_by : (n : ℕ) (all rows : List (List ℕ)) → IsLeadingBasis n rows → ((v : List ℕ) → Contains rows v → (k : ℕ) → slice_index v k ≢ 0 → is_used all k ≡ true) → basis_length rows ≤ 64 * used_positions n all
length_by n all rows b seen =
    let h = length_of_rows rows in
    let r = rows_use n all rows 0 b seen (λ k d lt. omega arith) (omega arith) in
    omega arith

pub length_bound : (n : ℕ) (rows : List (List ℕ)) → IsLeadingBasis n rows → (basis_length rows ≤ 64 * used_positions n rows) × (basis_length rows ≤ 64 * n)
length_bound n rows b =
    let h = length_by n rows rows b (λ v i k ne. is_used_at rows k v i ne) in
    let u = used_below n rows in
    (h, omega arith)

-- a basis of a module within that of a list is bounded by the positions that the list uses
pub length_within_used : (n : ℕ) (all rows : List (List ℕ)) → IsLeadingBasis n rows → AreRows n (Contains all) → IsWithin n (Contains rows) (Contains all) → basis_length rows ≤ 64 * used_positions n all
length_within_used n all rows b are within =
    length_by n all rows b (λ v i k ne. true_from_ne_false (is_used all k) (λ none. ne
    (zero_at n k (Contains all) are (λ u j. zero_where_none u j k none) v (within v (generator n (Contains rows) (basis_rows n rows b) v i)))))
  where
    zero_where_none : (u : List ℕ) → Contains all u → (k : ℕ) → is_used all k ≡ false → slice_index u k ≡ 0
    zero_where_none u j k none = elim (cases_eq (slice_index u k) 0) [
      | inl z ↦ z
      | inr ne ↦ absurd (false≢true (sym none ∙ is_used_at all k u j ne))
    ]

-- one row of a sum from the first on
pub length_more : (rows : List (List ℕ)) (i : ℕ) (d : List ℕ) → i < length rows → basis_length (drop i rows) ≡ (64 - trailing_zeros w64 (pivot (get_or rows i d))) + basis_length (drop (i + 1) rows)
length_more rows i d below = ap basis_length (drop-cons rows i d below) ∙ ap (λ (k : ℕ). (64 - trailing_zeros w64 (pivot (get_or rows i d))) + basis_length (drop k rows)) (sym (add-one i))
