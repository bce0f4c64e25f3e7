-- The maps of openings, steps and calls on states.
use Rattle.std.proofs.Common.{◌≡◌, ℕ, ◌*◌, ◌<◌, List, [], ◌∷◌, drop, slice_index, Bool, true, false, refl, ap, sym, ◌∙◌, arith, if◌then◌else◌, ◌==◌, ◌&&◌, ◌||◌, nat_lt}
use Rattle.word_rows.specs.Words.{word}
use Rattle.word_rows.specs.Rows.{IsRow, IsState}
use Rattle.row_modules.specs.Positions.{has}
use Rattle.map_modules.specs.Matrices.{entry, sum_below, matrix, vector, identity, product, apply, extension}
use Rattle.map_modules.proofs.Sums.{word-mul, word-word, sum_below_same, sum_below_pick, sum_below-times}
use Rattle.map_modules.proofs.Entries.{entry-matrix, same_vector, get_or-vector, IsRow-vector}
use Rattle.map_modules.proofs.Conditions.{same_tests, and_true}
use Rattle.map_modules.proofs.Products.{apply-product, apply-identity}
use Rattle.affine_prog.specs.declared.Assign.{Assign}
use Rattle.affine_prog.specs.declared.Assign.TheVariants.{Affine, Any}
use Rattle.affine_prog.specs.Assignments.{constant, assignment, matrix_of}
use Rattle.affine_prog.specs.LevelPaths.{opening_map, step_map, call_map}
use Rattle.run_paths.specs.Maps.{opened, returned, with_word, changed}

pub apply_matrix : (f : ℕ → ℕ → ℕ) (v : List ℕ) → apply (matrix f) v ≡ vector (λ i. sum_below 17 (λ k. f i k * slice_index v k))
apply_matrix f v =
    same_vector _ _ (λ i within. sum_below_same 17 (λ k. entry (matrix f) i k * slice_index v k) (λ k. f i k * slice_index v k)
    (λ k h. word-mul (entry (matrix f) i k) (f i k) (slice_index v k) (slice_index v k) (ap word (entry-matrix f i k within h) ∙ word-word (f i k)) refl))

none_sum : (f : ℕ → ℕ) → sum_below 17 (λ k. 0 * f k) ≡ 0
none_sum f = sum_below-times 17 0 f ∙ (let e : 0 * sum_below 17 f ≡ 0 = omega arith in e)

one_sum : (i : ℕ) (f : ℕ → ℕ) → i < 17 → sum_below 17 (λ k. (if k == i then 1 else 0) * f k) ≡ f i
one_sum i f h = sum_below_pick 17 i 1 f h ∙ (let e : 1 * f i ≡ f i = omega arith in e)

opened_at : (reg slot : Bool) (i w : ℕ) (s : List ℕ) → i < 17 → IsState s
    → sum_below 17 (λ k. (if reg then (if k == i then 1 else 0) else if slot && (k == 16) then w else 0) * slice_index s k)
    ≡ (if reg then slice_index s i else if slot then w else 0)
opened_at true slot i w s h state = one_sum i (λ k. slice_index s k) h
opened_at false true i w s h state =
    sum_below_pick 17 16 w (λ k. slice_index s k) (omega arith) ∙ ap (λ (x : ℕ). w * x) state.constant ∙ (let e : w * 1 ≡ w = omega arith in e)
opened_at false false i w s h state = none_sum (λ k. slice_index s k)

pub apply-opening : (registers slots : ℕ) (words s : List ℕ) → IsState s → apply (opening_map registers slots words) s ≡ opened registers slots words s
apply-opening registers slots words s state =
    apply_matrix _ s ∙ same_vector _ _ (λ i h. ap word (opened_at (has registers i || (i == 16)) (has slots i) i (slice_index words i) s h state))

returned_at : (reg slot : Bool) (i : ℕ) (m s : List ℕ) → i < 17
    → word (sum_below 17 (λ k. (if reg then entry m i k else if slot && (i == k) then 1 else 0) * slice_index s k))
    ≡ word (if reg then sum_below 17 (λ k. entry m i k * slice_index s k) else if slot then slice_index s i else 0)
returned_at true slot i m s h = refl
returned_at false true i m s h =
    sum_below_same 17 (λ k. (if i == k then 1 else 0) * slice_index s k) (λ k. (if k == i then 1 else 0) * slice_index s k)
    (λ k h. ap (λ (b : Bool). word ((if b then 1 else 0) * slice_index s k)) (same_tests i k)) ∙ ap word (one_sum i (λ k. slice_index s k) h)
returned_at false false i m s h = ap word (none_sum (λ k. slice_index s k))

picked : (reg slot : Bool) (x y z : ℕ) → word x ≡ word y → word (if reg then x else if slot then z else 0) ≡ word (if reg then y else if slot then z else 0)
picked true slot x y z e = e
picked false slot x y z e = refl

pub apply-extension : (registers slots : ℕ) (m s : List ℕ) → apply (extension registers slots m) s ≡ returned registers slots s (apply m s)
apply-extension registers slots m s =
    apply_matrix _ s ∙ same_vector _ _ (λ i h. returned_at (has registers i || (i == 16)) (has slots i) i m s h
    ∙ picked (has registers i || (i == 16)) (has slots i) _ _ (slice_index s i) (sym (ap word (get_or-vector (λ i. sum_below 17 (λ k. entry m i k * slice_index s k)) i h) ∙ word-word (sum_below 17 (λ k. entry m i k * slice_index s k)))))

-- one assignment
all_positions : (l : ℕ) → l < 17 → (nat_lt l 16 || (l == 16)) ≡ true
all_positions l h = grind arith

identity_entry : (l j : ℕ) → l < 17 → j < 17 → word (entry (identity 16) l j) ≡ word (if l == j then 1 else 0)
identity_entry l j lh jh =
    ap word (entry-matrix _ l j lh jh) ∙ word-word _ ∙ ap (λ (b : Bool). word (if b then 1 else 0)) (and_true (l == j) _ (all_positions l lh))

row_picks : (row : List ℕ) (j : ℕ) → j < 17 → word (sum_below 17 (λ l. slice_index row l * entry (identity 16) l j)) ≡ word (slice_index row j)
row_picks row j h =
    sum_below_same 17 (λ l. slice_index row l * entry (identity 16) l j) (λ l. (if l == j then 1 else 0) * slice_index row l)
    (λ l lh. word-mul (slice_index row l) (slice_index row l) _ _ refl (identity_entry l j lh h)
    ∙ ap word (let e : slice_index row l * (if l == j then 1 else 0) ≡ (if l == j then 1 else 0) * slice_index row l = omega arith in e))
    ∙ ap word (one_sum j (λ l. slice_index row l) h)

assigned_at : (b : Bool) (i : ℕ) (row s : List ℕ) → i < 17
    → word (sum_below 17 (λ k. (if b then sum_below 17 (λ l. slice_index row l * entry (identity 16) l k) else entry (identity 16) i k) * slice_index s k))
    ≡ word (if b then sum_below 17 (λ l. slice_index row l * slice_index s l) else slice_index s i)
assigned_at true i row s h =
    sum_below_same 17 _ (λ l. slice_index row l * slice_index s l) (λ k kh. word-mul _ (slice_index row k) _ _ (row_picks row k kh) refl)
assigned_at false i row s h =
    sum_below_same 17 _ (λ k. (if k == i then 1 else 0) * slice_index s k)
    (λ k kh. word-mul _ (if k == i then 1 else 0) _ _ (identity_entry i k h kh ∙ ap (λ (b : Bool). word (if b then 1 else 0)) (same_tests i k)) refl)
    ∙ ap word (one_sum i (λ k. slice_index s k) h)

pub apply-assignment : (i : ℕ) (row s : List ℕ) → apply (assignment i row) s ≡ with_word i row s
apply-assignment i row s = apply_matrix _ s ∙ same_vector _ _ (λ k h. assigned_at (k == i) k row s h)

pub apply-matrix_of : (assigns : List Assign) (words s : List ℕ) → IsRow 17 s → apply (matrix_of assigns words) s ≡ changed assigns words s
apply-matrix_of [] words s row = apply-identity s row
apply-matrix_of (Affine i by ∷ rest) words s row =
    apply-product (matrix_of rest words) (assignment i by) s ∙ ap (apply (matrix_of rest words)) (apply-assignment i by s)
    ∙ apply-matrix_of rest words (with_word i by s) (IsRow-vector _)
apply-matrix_of (Any i ∷ rest) words s row =
    apply-product (matrix_of rest (drop 1 words)) (assignment i (constant (slice_index words 0))) s
    ∙ ap (apply (matrix_of rest (drop 1 words))) (apply-assignment i (constant (slice_index words 0)) s)
    ∙ apply-matrix_of rest (drop 1 words) (with_word i (constant (slice_index words 0)) s) (IsRow-vector _)

pub apply-step : (assigns : List Assign) (words m s : List ℕ) → IsRow 17 (apply m s) → apply (step_map assigns words m) s ≡ changed assigns words (apply m s)
apply-step assigns words m s row = apply-product (matrix_of assigns words) m s ∙ apply-matrix_of assigns words (apply m s) row

pub apply-call : (registers slots : ℕ) (before : List Assign) (words callee m s : List ℕ) → IsRow 17 (apply m s)
    → apply (call_map registers slots (matrix_of before words) callee m) s
    ≡ returned registers slots (changed before words (apply m s)) (apply callee (changed before words (apply m s)))
apply-call registers slots before words callee m s row =
    apply-product (extension registers slots callee) (product (matrix_of before words) m) s
    ∙ ap (apply (extension registers slots callee)) (apply-step before words m s row)
    ∙ apply-extension registers slots callee (changed before words (apply m s))
