-- What a list makes is affine in the words that are chosen: what it makes under zeros, plus each word times a fixed difference.
use Rattle.std.proofs.Common.{◌≡◌, ℕ, suc, ◌*◌, ◌<◌, List, [], ◌∷◌, length, drop, replicate, get_or, slice_index, All, refl, ap, ap₂, sym, ◌∙◌, arith}
use Rattle.std.proofs.Math.ListN.{length-set}
use Rattle.std.proofs.lemmas.List.{length-replicate}
use Rattle.std.proofs.lemmas.List.Elements.{All-head, All-tail, All-cons, All-nil}
use Rattle.word_rows.specs.Rows.{words_of, plus, unit, IsRow}
use Rattle.word_rows.proofs.Laws.{get_or-zeros}
use Rattle.map_modules.specs.Matrices.{moved, product, assigned}
use Rattle.map_modules.proofs.Lemmas.{IsRow-table, moved_second}
use Rattle.affine_prog.specs.declared.Assign.{Assign}
use Rattle.affine_prog.specs.declared.Assign.TheVariants.{Affine, Any}
use Rattle.affine_prog.specs.Assignments.{position_of, unknown_count, constant, assignment, matrix_of, made}
use Rattle.affine_prog.specs.Laws.{zero_choice}
use Rattle.affine_prog.proofs.Steps.{made-cons, spread, unknown_word, HasNoConstant, unknown_of_none, HasNoConstant-assigned, HasNoConstant-spread}
use Rattle.affine_prog.proofs.Combined.{combined, combined-unit}

-- the positions that are assigned are below 16
abbrev pub ArePlaced : List Assign → Type 0
ArePlaced assigns = All (λ a. position_of a < 16) assigns

later : (a : Assign) (rest : List Assign) → ArePlaced (a ∷ rest) → ArePlaced rest
later a rest placed = All-tail (λ a. position_of a < 16) a rest placed

here : (a : Assign) (rest : List Assign) → ArePlaced (a ∷ rest) → position_of a < 16
here a rest placed = All-head (λ a. position_of a < 16) a rest placed

-- zeros are chosen as well by no words at all
matrix_of-zeros : (assigns : List Assign) (words : List ℕ) → ((k : ℕ) → get_or words k 0 ≡ 0) → matrix_of assigns words ≡ matrix_of assigns []
matrix_of-zeros [] words zeros = refl
matrix_of-zeros (Affine i row ∷ rest) words zeros = ap (λ b. product b (assignment i row)) (matrix_of-zeros rest words zeros)
matrix_of-zeros (Any i ∷ rest) [] zeros = refl
matrix_of-zeros (Any i ∷ rest) (w ∷ words) zeros =
    ap₂ (λ b x. product b (assignment i (constant x))) (matrix_of-zeros rest words (λ k. zeros (suc k))) (zeros 0)

module _ (k : ℕ) where
  -- where the last row is 0, what is made doesn't depend on its choice
  pub made_of_none : (assigns : List Assign) (words n : List ℕ) → ArePlaced assigns → HasNoConstant k n → made k assigns words n ≡ made k assigns [] n
  made_of_none [] words n placed none = refl
  made_of_none (Affine i row ∷ rest) words n placed none =
      made-cons k n row (matrix_of rest words) i
      ∙ made_of_none rest words (assigned k n i row) (later _ _ placed) (HasNoConstant-assigned k i n row (here _ _ placed) none)
      ∙ sym (made-cons k n row (matrix_of rest []) i)
  made_of_none (Any i ∷ rest) words n placed none =
      made-cons k n (constant (slice_index words 0)) (matrix_of rest (drop 1 words)) i
      ∙ ap (made k rest (drop 1 words)) (unknown_of_none k (slice_index words 0) i n none)
      ∙ made_of_none rest (drop 1 words) (assigned k n i (constant 0)) (later _ _ placed) (HasNoConstant-assigned k i n (constant 0) (here _ _ placed) none)
      ∙ sym (made-cons k n (constant 0) (matrix_of rest []) i)

  -- what one more of each chosen word adds
  abbrev pub differences_of : List Assign → List ℕ → List (List ℕ)
  differences_of [] m = []
  differences_of (Affine i row ∷ rest) m = differences_of rest (assigned k m i row)
  differences_of (Any i ∷ rest) m = made k rest [] (spread k i m) ∷ differences_of rest (assigned k m i (constant 0))

  pub length-differences_of : (assigns : List Assign) (m : List ℕ) → length (differences_of assigns m) ≡ unknown_count assigns
  length-differences_of [] m = refl
  length-differences_of (Affine i row ∷ rest) m = length-differences_of rest (assigned k m i row)
  length-differences_of (Any i ∷ rest) m = omega (arith, length-differences_of rest (assigned k m i (constant 0)))

  pub differences_are_rows : (assigns : List Assign) (m : List ℕ) → All (IsRow (17 * k)) (differences_of assigns m)
  differences_are_rows [] m = All-nil (IsRow (17 * k))
  differences_are_rows (Affine i row ∷ rest) m = differences_are_rows rest (assigned k m i row)
  differences_are_rows (Any i ∷ rest) m =
      All-cons (IsRow (17 * k)) (made k rest [] (spread k i m)) (differences_of rest (assigned k m i (constant 0))) (IsRow-table k _) (differences_are_rows rest (assigned k m i (constant 0)))

  -- what is made under a choice
  pub made-combined : (assigns : List Assign) (words m : List ℕ) → ArePlaced assigns → length words ≡ unknown_count assigns
      → made k assigns words m ≡ combined (made k assigns [] m) words (differences_of assigns m)
  made-combined [] [] m placed long = refl
  made-combined [] (w ∷ words) m placed long = refl
  made-combined (Affine i row ∷ rest) words m placed long =
      made-cons k m row (matrix_of rest words) i ∙ made-combined rest words (assigned k m i row) (later _ _ placed) long
      ∙ ap (λ s. combined s words (differences_of rest (assigned k m i row))) (sym (made-cons k m row (matrix_of rest []) i))
  made-combined (Any i ∷ rest) [] m placed long = absurd (omega arith)
  made-combined (Any i ∷ rest) (w ∷ words) m placed long =
      let zero_map = assigned k m i (constant 0) in
      made-cons k m (constant w) (matrix_of rest words) i ∙ ap (made k rest words) (unknown_word k w i m)
      ∙ moved_second k (matrix_of rest words) w zero_map (spread k i m) (IsRow-table k _) (IsRow-table k _)
      ∙ ap₂ (λ x y. words_of (plus w x y)) (made-combined rest words zero_map (later _ _ placed) (omega arith)) (made_of_none rest words (spread k i m) (later _ _ placed) (HasNoConstant-spread k i m (here _ _ placed)))
      ∙ ap (λ s. words_of (plus w (combined s words (differences_of rest zero_map)) (made k rest [] (spread k i m)))) (sym (made-cons k m (constant 0) (matrix_of rest []) i))

  -- what is made under zeros, and under one unit
  pub under_zeros : (assigns : List Assign) (m : List ℕ) → made k assigns [] m ≡ made k assigns (zero_choice (unknown_count assigns)) m
  under_zeros assigns m =
      ap (λ b. moved k b m) (sym (matrix_of-zeros assigns (zero_choice (unknown_count assigns)) (get_or-zeros (unknown_count assigns))))

  pub under_unit : (assigns : List Assign) (m : List ℕ) (n at : ℕ) → ArePlaced assigns → n ≡ unknown_count assigns → at < n
      → made k assigns (unit n at) m ≡ words_of (plus 1 (made k assigns [] m) (get_or (differences_of assigns m) at []))
  under_unit assigns m n at placed count within =
      let long : length (unit n at) ≡ n = length-set (replicate n 0) at 1 ∙ length-replicate n 0 in
      let rows : n ≡ length (differences_of assigns m) = count ∙ sym (length-differences_of assigns m) in
      made-combined assigns (unit n at) m placed (long ∙ count)
      ∙ ap (λ i. combined (made k assigns [] m) (unit i at) (differences_of assigns m)) rows
      ∙ combined-unit (17 * k) (made k assigns [] m) (IsRow-table k _) (differences_of assigns m) at (differences_are_rows assigns m) (omega arith)
