-- What is tried with matrices is tried with steps.
use Rattle.std.proofs.Common.{IfOk, Result, Ok, Err, ◌≡◌, ℕ, ◌+◌, ◌<◌, inl, inr, List, Contains, All, length, get_or, refl, ap, sym, subst, ◌∙◌, ◌↔◌, arith}
use Rattle.std.proofs.lemmas.Bool.{cases_lt}
use Rattle.std.proofs.lemmas.List.{get_or_default}
use Rattle.std.proofs.lemmas.List.Elements.{All-contains, All-contains_itself, All-weaker}
use Rattle.map_modules.specs.Matrices.{product}
use Rattle.affine_prog.specs.declared.Assign.{Assign}
use Rattle.affine_prog.specs.Assignments.{matrix_of}
use Rattle.proof_rules.specs.Simple.{IsSimpleStep}
use Rattle.proof_verify.specs.Tests.{AreSimpleMatrices}

module _ (assigns : List Assign) (matrices rows : List (List ℕ)) (are : AreSimpleMatrices assigns matrices) (P : List ℕ → List ℕ → Type 0) where
  pub tried : All (λ m. All (λ b. P m (product b m)) matrices) rows ↔ ((m n : List ℕ) → Contains rows m → IsSimpleStep assigns m n → P m n)
  tried = (
    λ all m n h (words, simple, is).
        rw is (All-contains (λ b. P m (product b m)) matrices (matrix_of assigns words) (All-contains (λ x. All (λ b. P x (product b x)) matrices) rows m all h)
        ((are (matrix_of assigns words)).1 (words, simple, refl))),
    λ each. All-weaker (Contains rows) (λ m. All (λ b. P m (product b m)) matrices)
        (λ m h. All-weaker (Contains matrices) (λ b. P m (product b m)) (λ b i. let s = (are b).0 i in each m (product b m) h (s.0, s.1, ap (λ x. product x m) s.2)) matrices (All-contains_itself matrices))
        rows (All-contains_itself rows),
  )

-- the same of what is tried for each of a list besides
module _ (assigns : List Assign) (matrices rows others : List (List ℕ)) (are : AreSimpleMatrices assigns matrices) (P : List ℕ → List ℕ → Type 0) where
  pub tried_outside : All (λ o. All (λ m. All (λ b. P o (product b m)) matrices) rows) others
      ↔ ((m n o : List ℕ) → Contains rows m → IsSimpleStep assigns m n → Contains others o → P o n)
  tried_outside = (
    λ all m n o h step i. (tried assigns matrices rows are (λ x y. P o y)).0 (All-contains (λ z. All (λ m. All (λ b. P z (product b m)) matrices) rows) others o all i) m n h step,
    λ each. All-weaker (Contains others) (λ o. All (λ m. All (λ b. P o (product b m)) matrices) rows)
        (λ o i. (tried assigns matrices rows are (λ x y. P o y)).1 (λ m n h step. each m n o h step i)) others (All-contains_itself others),
  )

  pub tried_inside : All (λ m. All (λ b. All (λ o. P o (product b m)) others) matrices) rows
      ↔ ((m n o : List ℕ) → Contains rows m → IsSimpleStep assigns m n → Contains others o → P o n)
  tried_inside = (
    λ all m n o h step i. All-contains (λ z. P z n) others o ((tried assigns matrices rows are (λ x y. All (λ z. P z y) others)).0 all m n h step) i,
    λ each. (tried assigns matrices rows are (λ x y. All (λ z. P z y) others)).1
        (λ m n h step. All-weaker (Contains others) (λ z. P z n) (λ o i. each m n o h step i) others (All-contains_itself others)),
  )

pub both_ways : {A B C : Type 0} → A ↔ B → B ↔ C → A ↔ C
both_ways f g = (λ a. g.0 (f.0 a), λ c. f.1 (g.1 c))

pub if_ok : {X E : Type 0} (r : Result X E) (P Q : X → Type 0) → ((x : X) → P x → Q x) → IfOk r P → IfOk r Q
if_ok (Ok x) P Q f h = f x h
if_ok (Err e) P Q f h = tt

-- a list gone through row by row
module _ (P : List ℕ → Type 0) (rows : List (List ℕ)) (i : ℕ) (row : List ℕ) (within : i < length rows) (is : row ≡ get_or rows i row) where
  pub one_more : ((k : ℕ) (d : List ℕ) → k < i → P (get_or rows k d)) → P row → (k : ℕ) (d : List ℕ) → k < i + 1 → P (get_or rows k d)
  one_more so_far here k d below = elim (cases_lt k i) [
    | inl early ↦ so_far k d early
    | inr late ↦
        let same : k ≡ i = omega arith in
        subst P (is ∙ get_or_default rows i row d within ∙ ap (λ (n : ℕ). get_or rows n d) (sym same)) here
  ]

  pub one_broken : (P row → ⊥) → All P rows → ⊥
  one_broken broken all = broken (subst P (sym is) (all i row within))
