-- Matrices that keep a position: they are a module, and an affine one is a map that leaves each state's word there.
use Rattle.std.proofs.Common.{◌≡◌, ℕ, ◌+◌, ◌*◌, ◌<◌, ◌↔◌, List, length, slice_index, get_or, Bool, true, false, refl, ap, sym, ◌∙◌, arith, if◌then◌else◌, ◌==◌, inl, inr}
use Rattle.std.proofs.lemmas.Bool.{ne_eqb, cases_lt}
use Rattle.word_rows.specs.Words.{word}
use Rattle.word_rows.specs.Rows.{words_of, plus, IsRow, IsState}
use Rattle.word_rows.proofs.Laws.{get_or-zeros, get_or-wrapped_plus, IsRow-plus}
use Rattle.map_modules.specs.Matrices.{entry, vector, apply, IsAffine, Keeps}
use Rattle.map_modules.specs.Laws.{KeepingIsLinear}
use Rattle.map_modules.proofs.Sums.{sum_below_same, sum_below_pick}
use Rattle.map_modules.proofs.Entries.{get_or-vector, IsRow-vector}
use Rattle.map_modules.proofs.Linear.{apply_second}
use Rattle.map_modules.proofs.Conditions.{same_tests}
use Rattle.map_modules.proofs.Products.{row_word}
use Rattle.map_modules.proofs.Affine.{word_of_bit}

kept_sum : (b : Bool) (c x y x' y' : ℕ) → x ≡ (if b then x' else 0) → y ≡ (if b then y' else 0) → word (x + c * y) ≡ (if b then word (x' + c * y') else 0)
kept_sum true c x y x' y' e f = let g : word (x + c * y) ≡ word (x' + c * y') = cc in g
kept_sum false c x y x' y' e f = let m = ap (λ (n : ℕ). c * n) f in ap word (let s : x + c * y ≡ 0 = omega arith in s)

zero_kept : (b : Bool) (x : ℕ) → x ≡ 0 → 0 ≡ (if b then x else 0)
zero_kept true x e = sym e
zero_kept false x e = refl

pub keeping_is_linear : (r : ℕ) → KeepingIsLinear r
keeping_is_linear r = record {
  zero_row = λ j column. get_or-zeros 289 (17 * r + j) ∙ zero_kept (j == r) _ (get_or-zeros 289 (17 * 16 + 16));
  sum = λ c v w left right kept also j column.
      let wide : length v ≡ length w = left.width ∙ sym right.width in
      get_or-wrapped_plus c v w (17 * r + j) wide ∙ kept_sum (j == r) c _ _ _ _ (kept j column) (also j column)
      ∙ ap (λ n. if j == r then n else 0) (sym (get_or-wrapped_plus c v w (17 * 16 + 16) wide));
}

-- a row with 1 at one position, and what a matrix makes of it: a column
unit : ℕ → List ℕ
unit j = vector (λ k. if k == j then 1 else 0)

get_or-unit : (j k : ℕ) → k < 17 → get_or (unit j) k 0 ≡ (if k == j then 1 else 0)
unfolding unit
get_or-unit j k h = get_or-vector _ k h ∙ word_of_bit (k == j)

IsRow-unit : (j : ℕ) → IsRow 17 (unit j)
unfolding unit
IsRow-unit j = IsRow-vector _

apply-unit : (m : List ℕ) (r j : ℕ) → IsRow 289 m → r < 17 → j < 17 → get_or (apply m (unit j)) r 0 ≡ entry m r j
apply-unit m r j row within column =
    get_or-vector _ r within
    ∙ sum_below_same 17 (λ k. entry m r k * slice_index (unit j) k) (λ k. (if k == j then 1 else 0) * entry m r k)
    (λ k h. ap (λ x. word (entry m r k * x)) (get_or-unit j k h) ∙ ap word (let e : entry m r k * (if k == j then 1 else 0) ≡ (if k == j then 1 else 0) * entry m r k = omega arith in e))
    ∙ ap word (sum_below_pick 17 j 1 (λ k. entry m r k) column ∙ (let e : 1 * entry m r j ≡ entry m r j = omega arith in e)) ∙ row_word 289 m row (17 * r + j)

module _ (m : List ℕ) (r : ℕ) (below : r < 16) (row : IsRow 289 m) (affine : IsAffine m) where
  one : entry m 16 16 ≡ 1
  one = affine 16 (omega arith)

  leaves : Keeps m r → (v : List ℕ) → IsState v → slice_index (apply m v) r ≡ slice_index v r
  leaves kept v state =
      get_or-vector _ r (omega arith)
      ∙ sum_below_same 17 (λ k. entry m r k * slice_index v k) (λ k. (if k == r then 1 else 0) * slice_index v k)
      (λ k h. ap (λ x. word (x * slice_index v k)) (kept k h ∙ ap (λ n. if k == r then n else 0) one))
      ∙ ap word (sum_below_pick 17 r 1 (λ k. slice_index v k) (omega arith) ∙ (let e : 1 * slice_index v r ≡ slice_index v r = omega arith in e))
      ∙ row_word 17 v state.row r

  module _ (left : (v : List ℕ) → IsState v → slice_index (apply m v) r ≡ slice_index v r) where
    last_column : entry m r 16 ≡ 0
    last_column =
        sym (apply-unit m r 16 row (omega arith) (omega arith)) ∙ left (unit 16) (record { row = IsRow-unit 16; constant = get_or-unit 16 16 (omega arith) })
        ∙ get_or-unit 16 r (omega arith) ∙ ap (λ b. if b then 1 else 0) (ne_eqb r 16 (λ e. omega arith))

    -- the state with the constant, and 1 at position j
    with_one : ℕ → List ℕ
    with_one j = words_of (plus 1 (unit 16) (unit j))

    get_or-with_one : (j k : ℕ) → k < 17 → get_or (with_one j) k 0 ≡ word ((if k == 16 then 1 else 0) + 1 * (if k == j then 1 else 0))
    unfolding with_one
    get_or-with_one j k h =
        get_or-wrapped_plus 1 (unit 16) (unit j) k (IsRow.width (IsRow-unit 16) ∙ sym (IsRow.width (IsRow-unit j)))
        ∙ (let e = get_or-unit 16 k h in let f = get_or-unit j k h in let g : word (get_or (unit 16) k 0 + 1 * get_or (unit j) k 0) ≡ word ((if k == 16 then 1 else 0) + 1 * (if k == j then 1 else 0)) = cc in g)

    IsState-with_one : (j : ℕ) → j < 16 → IsState (with_one j)
    unfolding with_one
    IsState-with_one j column = record {
      row = IsRow-plus 17 1 (unit 16) (unit j) (IsRow-unit 16) (IsRow-unit j);
      constant = get_or-with_one j 16 (omega arith) ∙ ap (λ b. word (1 + 1 * (if b then 1 else 0))) (ne_eqb 16 j (λ e. omega arith));
    }

    applied : (j : ℕ) → j < 16 → get_or (apply m (with_one j)) r 0 ≡ entry m r j
    unfolding with_one
    applied j column =
        ap (λ xs. get_or xs r 0) (apply_second m 1 (unit 16) (unit j) (IsRow-unit 16) (IsRow-unit j))
        ∙ get_or-wrapped_plus 1 (apply m (unit 16)) (apply m (unit j)) r (IsRow.width (IsRow-vector _) ∙ sym (IsRow.width (IsRow-vector _)))
        ∙ ap word (let e = apply-unit m r 16 row (omega arith) (omega arith) in let f = apply-unit m r j row (omega arith) (omega arith) in let z = last_column in omega arith)
        ∙ row_word 289 m row (17 * r + j)

    column_of : (j : ℕ) → j < 16 → entry m r j ≡ (if j == r then 1 else 0)
    column_of j column =
        sym (applied j column) ∙ left (with_one j) (IsState-with_one j column) ∙ get_or-with_one j r (omega arith)
        ∙ ap (λ b. word ((if b then 1 else 0) + 1 * (if r == j then 1 else 0))) (ne_eqb r 16 (λ e. omega arith))
        ∙ ap word (let e : 0 + 1 * (if r == j then 1 else 0) ≡ (if r == j then 1 else 0) = omega arith in e) ∙ word_of_bit (r == j)
        ∙ ap (λ b. if b then 1 else 0) (same_tests r j)

    keeps_from_states : Keeps m r
    keeps_from_states j column = elim (cases_lt j 16) [
      | inl h ↦ column_of j h ∙ ap (λ n. if j == r then n else 0) (sym one)
      | inr h ↦ let e : j ≡ 16 = omega arith in rw e (last_column ∙ sym (ap (λ b. if b then entry m 16 16 else 0) (ne_eqb 16 r (λ d. omega arith))))
    ]

  pub keeping_leaves_words : Keeps m r ↔ ((v : List ℕ) → IsState v → slice_index (apply m v) r ≡ slice_index v r)
  keeping_leaves_words = (leaves, keeps_from_states)
