-- The assignments of a list, one after the other, under a choice with 1 for one unknown.
use Rattle.std.proofs.Common.{◌≡◌, ℕ, zero, suc, ◌+◌, ◌<◌, ◌≤◌, List, [], ◌∷◌, ◌++◌, true, false, length, drop, get_or, slice_index, replicate, set, Contains, inl, inr, refl, ap, ap₂, sym, subst, ◌∙◌, arith, drop-cons, if◌then◌else◌, ◌==◌}
use Rattle.std.proofs.lemmas.Bool.{cases_eq, eq-eqb, ne_eqb, cases_lt}
use Rattle.std.proofs.lemmas.List.{drop_all, length-replicate}
use Rattle.std.proofs.Math.ListN.{length-set}
use Rattle.row_modules.proofs.Laws.{nothing_contained}
use Rattle.proof_verify.specs.Tests.{AreMatricesBelow, AreSimpleMatrices}
use Rattle.std.proofs.lemmas.List.Elements.{Contains-push, Contains-push_cases, Contains-append_left}
use Rattle.word_rows.specs.Words.{word}
use Rattle.word_rows.specs.Rows.{unit, IsRow}
use Rattle.word_rows.proofs.Laws.{get_or-zeros, unit_at, unit_elsewhere}
use Rattle.map_modules.specs.Matrices.{product, identity, after_affine}
use Rattle.map_modules.proofs.Lemmas.{IsRow-matrix, vector_from_index, product-identity_first, product-identity_second}
use Rattle.affine_prog.specs.declared.Assign.{Assign}
use Rattle.affine_prog.specs.declared.Assign.TheVariants.{Affine, Any}
use Rattle.affine_prog.specs.Assignments.{unknown_count, constant, matrix_of}
use Rattle.affine_prog.proofs.Lemmas.{step_map-cons}
use Rattle.affine_prog.proofs.Lemmas.{matrix_is_row}

-- the word of a unit row
pub unit_word : (n one k : ℕ) → k < n → slice_index (unit n one) k ≡ (if k == one then 1 else 0)
unit_word n one k below = elim (cases_eq k one) [
  | inl e ↦ ap (slice_index (unit n one)) e ∙ unit_at n one (omega (arith, e)) ∙ sym (ap (λ b. if b then 1 else 0) (eq-eqb k one e))
  | inr ne ↦ unit_elsewhere n one k ne ∙ sym (ap (λ b. if b then 1 else 0) (ne_eqb k one ne))
]

pub drop_more : {X : Type 0} (k : ℕ) (xs : List X) → drop 1 (drop k xs) ≡ drop (suc k) xs
drop_more zero xs = refl
drop_more (suc k) [] = refl
drop_more (suc k) (x ∷ xs) = drop_more k xs

pub drop_first : (k : ℕ) (xs : List ℕ) → slice_index (drop k xs) 0 ≡ slice_index xs k
drop_first zero xs = refl
drop_first (suc k) [] = refl
drop_first (suc k) (x ∷ xs) = drop_first k xs

pub record MadeUnder (assigns : List Assign) (words made : List ℕ) (i seen : ℕ) : Type 0 where
  pub row : IsRow 289 made
  pub is : product (matrix_of (drop i assigns) (drop seen words)) made ≡ matrix_of assigns words
  pub few : seen ≤ i
  pub count : seen + unknown_count (drop i assigns) ≡ unknown_count assigns

pub under_none : (assigns : List Assign) (words : List ℕ) → MadeUnder assigns words (identity 16) 0 0
under_none assigns words = record {
  row = IsRow-matrix _;
  is = product-identity_second (matrix_of assigns words) (matrix_is_row assigns words);
  few = omega arith;
  count = omega arith;
}

pub under_all : (assigns : List Assign) (words made : List ℕ) (i seen : ℕ) → length assigns ≤ i → MadeUnder assigns words made i seen → made ≡ matrix_of assigns words
under_all assigns words made i seen end m =
    sym (product-identity_first made m.row) ∙ ap (λ l. product (matrix_of l (drop seen words)) made) (sym (drop_all i assigns end)) ∙ m.is

module _ (assigns : List Assign) (words : List ℕ) (i : ℕ) (a : Assign) (below : i < length assigns) (here : a ≡ get_or assigns i a) where
  split : drop i assigns ≡ a ∷ drop (i + 1) assigns
  split =
      let e : suc i ≡ i + 1 = omega arith in
      drop-cons assigns i a below ∙ ap₂ (λ (x : Assign) (n : ℕ). x ∷ drop n assigns) (sym here) e

  module _ (made : List ℕ) (seen : ℕ) (m : MadeUnder assigns words made i seen) where
    pub under_affine : (j : ℕ) (row new : List ℕ) → a ≡ Affine j row → new ≡ after_affine made j row → MadeUnder assigns words new (i + 1) seen
    under_affine j row new is by =
        let s = split ∙ ap (λ (x : Assign). x ∷ drop (i + 1) assigns) is in record {
          row = rw by (IsRow-matrix _);
          is = ap (product (matrix_of (drop (i + 1) assigns) (drop seen words))) by
              ∙ sym (step_map-cons made row (matrix_of (drop (i + 1) assigns) (drop seen words)) j)
              ∙ ap (λ l. product (matrix_of l (drop seen words)) made) (sym s) ∙ m.is;
          few = let h = m.few in omega arith;
          count = ap (λ l. seen + unknown_count l) (sym s) ∙ m.count;
        }

    pub under_any : (j : ℕ) (row new : List ℕ) → a ≡ Any j → row ≡ constant (slice_index words seen) → new ≡ after_affine made j row → MadeUnder assigns words new (i + 1) (seen + 1)
    under_any j row new is chosen by =
        let s = split ∙ ap (λ (x : Assign). x ∷ drop (i + 1) assigns) is in
        let next : suc seen ≡ seen + 1 = omega arith in
        let c : seen + (unknown_count (drop (i + 1) assigns) + 1) ≡ unknown_count assigns = ap (λ l. seen + unknown_count l) (sym s) ∙ m.count in record {
          row = rw by (IsRow-matrix _);
          is = ap (product (matrix_of (drop (i + 1) assigns) (drop (seen + 1) words))) (by ∙ ap (after_affine made j) chosen)
              ∙ ap₂ (λ (ws : List ℕ) (w : ℕ). product (matrix_of (drop (i + 1) assigns) ws) (after_affine made j (constant w))) (sym (drop_more seen words ∙ ap (λ (k : ℕ). drop k words) next)) (sym (drop_first seen words))
              ∙ sym (step_map-cons made (constant (slice_index (drop seen words) 0)) (matrix_of (drop (i + 1) assigns) (drop 1 (drop seen words))) j)
              ∙ ap (λ l. product (matrix_of l (drop seen words)) made) (sym s) ∙ m.is;
          few = let h = m.few in omega arith;
          count = omega (arith, c);
        }

    pub next_unknown : (j : ℕ) → a ≡ Any j → seen < unknown_count assigns
    next_unknown j is =
        let s = split ∙ ap (λ (x : Assign). x ∷ drop (i + 1) assigns) is in
        let c : seen + (unknown_count (drop (i + 1) assigns) + 1) ≡ unknown_count assigns = ap (λ l. seen + unknown_count l) (sym s) ∙ m.count in omega (arith, c)

-- the constant's rows
pub zero_constant : replicate 17 0 ≡ constant 0
zero_constant =
    vector_from_index (replicate 17 0) (λ k. if k == 16 then 0 else 0) (length-replicate {A = ℕ} 17 0)
    (λ i below. get_or-zeros 17 i ∙ elim (i == 16) as (λ b. 0 ≡ word (if b then 0 else 0)) [ true ↦ refl | false ↦ refl ])

pub one_constant : set (replicate 17 0) 16 1 ≡ constant 1
one_constant =
    vector_from_index (unit 17 16) (λ k. if k == 16 then 1 else 0) (length-set {A = ℕ} (replicate 17 0) 16 1 ∙ length-replicate {A = ℕ} 17 0)
    (λ i below. unit_word 17 16 i below ∙ elim (i == 16) as (λ b. (if b then 1 else 0) ≡ word (if b then 1 else 0)) [ true ↦ refl | false ↦ refl ])

-- past the last unknown all words are 0
set_past : (xs : List ℕ) (w : ℕ) → set xs (length xs) w ≡ xs
set_past [] w = refl
set_past (x ∷ xs) w = ap (λ ys. x ∷ ys) (set_past xs w)

pub unit_past : (n : ℕ) → unit n n ≡ replicate n 0
unit_past n = ap (λ k. set (replicate n 0) k 1) (sym (length-replicate {A = ℕ} n 0)) ∙ set_past (replicate n 0) 1

-- the matrices under all simple choices
pub matrices_none : (assigns : List Assign) → AreMatricesBelow assigns 0 []
matrices_none assigns b = (λ h. absurd (nothing_contained b h), λ (k, below, is). absurd (omega arith))

pub matrices_more : (assigns : List Assign) (n : ℕ) (matrices : List (List ℕ)) (b : List ℕ) → AreMatricesBelow assigns n matrices → b ≡ matrix_of assigns (unit (unknown_count assigns) n)
    → AreMatricesBelow assigns (n + 1) (matrices ++ b ∷ [])
matrices_more assigns n matrices b so_far is x = (
  λ h. elim (Contains-push_cases matrices b x h) [
    | inl old ↦ let (k, below, e) = (so_far x).0 old in (k, omega arith, e)
    | inr e ↦ (n, omega arith, sym e ∙ is)
  ],
  λ (k, below, e). elim (cases_lt k n) [
    | inl early ↦ Contains-append_left matrices (b ∷ []) x ((so_far x).1 (k, early, e))
    | inr late ↦
        let same : k ≡ n = omega arith in
        subst (Contains (matrices ++ b ∷ [])) (is ∙ sym (e ∙ ap (λ j. matrix_of assigns (unit (unknown_count assigns) j)) same)) (Contains-push matrices b)
  ],
)

pub matrices_all : (assigns : List Assign) (matrices : List (List ℕ)) → AreMatricesBelow assigns (unknown_count assigns + 1) matrices → AreSimpleMatrices assigns matrices
matrices_all assigns matrices are b =
    let n = unknown_count assigns in (
      λ h. let (k, below, e) = (are b).0 h in elim (cases_lt k n) [
        | inl early ↦ (unit n k, inr (k, early, refl), e)
        | inr late ↦ let same : k ≡ n = omega arith in (unit n n, inl (unit_past n), e ∙ ap (λ j. matrix_of assigns (unit n j)) same)
      ],
      λ (words, simple, is). elim simple [
        | inl zeros ↦ (are b).1 (n, omega arith, is ∙ ap (matrix_of assigns) (zeros ∙ sym (unit_past n)))
        | inr one ↦ (are b).1 (one.0, let h = one.1 in omega arith, is ∙ ap (matrix_of assigns) one.2)
      ],
    )
