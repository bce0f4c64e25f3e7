-- A set given by unknown words spans what the choice of zeros and the steps span.
use Rattle.std.proofs.Common.{◌≡◌, ℕ, ◌+◌, ◌*◌, ◌-◌, ◌^◌, inl, inr, List, [], ◌∷◌, length, Contains, refl, ap, sym, ◌∙◌, arith}
use Rattle.std.proofs.Math.Nat.{add-mul-mod_self_left}
use Rattle.word_rows.specs.Words.{word}
use Rattle.word_rows.specs.Rows.{words_of, IsRow, plus}
use Rattle.word_rows.proofs.Laws.{words_of-plus_first, plus-zero, IsRow-plus}
use Rattle.row_modules.specs.Modules.{AreRows, IsCombination, IsModule, SameModule}
use Rattle.row_modules.specs.Choices.{IsChoice}
use Rattle.row_modules.proofs.Closure.{combinations, generator, module_least}
use Rattle.row_modules.proofs.Lists.{first_or_later, contains_first, contains_later, rows_with}

-- a sum less its first part
sum_less_first : (v w : List ℕ) → length v ≡ length w → words_of (plus (2 ^ 64 - 1) (plus 1 v w) v) ≡ words_of w
sum_less_first [] [] e = refl
sum_less_first [] (w ∷ ws) e = absurd (omega arith)
sum_less_first (v ∷ vs) [] e = absurd (omega arith)
sum_less_first (v ∷ vs) (w ∷ ws) e =
    let s : (v + 1 * w) + (2 ^ 64 - 1) * v ≡ w + 2 ^ 64 * v = omega arith in
    let h = sum_less_first vs ws (omega arith) in
    let z : word ((v + 1 * w) + (2 ^ 64 - 1) * v) ≡ word w = ap word s ∙ add-mul-mod_self_left w (2 ^ 64) v in cc

pub less_first : (n : ℕ) (v w : List ℕ) → IsRow n v → IsRow n w → words_of (plus (2 ^ 64 - 1) (words_of (plus 1 v w)) v) ≡ w
less_first n v w a b = words_of-plus_first (2 ^ 64 - 1) (plus 1 v w) v ∙ sum_less_first v w (a.width ∙ sym b.width) ∙ b.words

module _ (n : ℕ) (start : List ℕ) (first : IsRow n start) where
  -- the choice of zeros is the start itself
  start_is_choice : (steps : List (List ℕ)) → AreRows n (Contains steps) → IsChoice start steps start
  start_is_choice [] rows = refl
  start_is_choice (step ∷ steps) rows = (
    0,
    start,
    start_is_choice steps (λ v h. rows v (contains_later step steps v h)),
    sym (ap words_of (plus-zero start step (first.width ∙ sym (rows step (contains_first step steps)).width)) ∙ first.words),
  )

  choice_in : (S : List ℕ → Type 0) → IsModule n S → (steps : List (List ℕ)) → S start → ((v : List ℕ) → Contains steps v → S v) → (v : List ℕ) → IsChoice start steps v → S v
  choice_in S m [] s h v e = rw e s
  choice_in S m (step ∷ steps) s h v (c, u, k, e) =
      rw e (m.sum c u step (choice_in S m steps s (λ x i. h x (contains_later step steps x i)) u k) (h step (contains_first step steps)))

  step_in : (S : List ℕ → Type 0) → IsModule n S → (step : List ℕ) → S start → S (words_of (plus 1 start step)) → IsRow n step → S step
  step_in S m step s t row =
      let e = less_first n start step first row in
      rw (← e) (m.sum (2 ^ 64 - 1) (words_of (plus 1 start step)) start t s)

  pub choice_row : (steps : List (List ℕ)) → AreRows n (Contains steps) → (v : List ℕ) → IsChoice start steps v → IsRow n v
  choice_row [] rows v e = rw e first
  choice_row (step ∷ steps) rows v (c, u, k, e) =
      rw e (IsRow-plus n c u step (choice_row steps (λ x j. rows x (contains_later step steps x j)) u k) (rows step (contains_first step steps)))

  steps_in : (S : List ℕ → Type 0) → IsModule n S → (steps : List (List ℕ)) → AreRows n (Contains steps) → ((v : List ℕ) → IsChoice start steps v → S v) → (v : List ℕ) → Contains steps v → S v
  steps_in S m [] rows h v (k, below, e) = absurd (omega arith)
  steps_in S m (step ∷ steps) rows h v i =
      let later : AreRows n (Contains steps) = λ x j. rows x (contains_later step steps x j) in
      let row = rows step (contains_first step steps) in
      let s = start_is_choice steps later in
      elim (first_or_later step steps v i) [
        | inl e ↦ rw e (step_in S m step (h start (start_is_choice (step ∷ steps) rows)) (h (words_of (plus 1 start step)) (1, start, s, refl)) row)
        | inr j ↦ steps_in S m steps later
            (λ x k. let r = choice_row steps later x k in
            h x (0, x, k, sym (ap words_of (plus-zero x step (r.width ∙ sym row.width)) ∙ r.words))) v j
      ]

  pub choices_span : (steps : List (List ℕ)) → AreRows n (Contains steps) → SameModule n (IsChoice start steps) (Contains (start ∷ steps))
  choices_span steps rows =
      let wide = rows_with n start steps first rows in
      let all = combinations n (Contains (start ∷ steps)) wide in
      let chosen : AreRows n (IsChoice start steps) = choice_row steps rows in
      let S = IsCombination n (IsChoice start steps) in
      let own = generator n (IsChoice start steps) chosen in
      record {
        there = module_least n (IsCombination n (Contains (start ∷ steps))) all (IsChoice start steps)
            (choice_in (IsCombination n (Contains (start ∷ steps))) all steps
            (generator n (Contains (start ∷ steps)) wide start (contains_first start steps))
            (λ v h. generator n (Contains (start ∷ steps)) wide v (contains_later start steps v h)));
        back = module_least n S (combinations n (IsChoice start steps) chosen) (Contains (start ∷ steps))
            (λ v h. elim (first_or_later start steps v h) [
              | inl e ↦ rw e (own start (start_is_choice steps rows))
              | inr k ↦ steps_in S (combinations n (IsChoice start steps) chosen) steps rows own v k
            ]);
      }
