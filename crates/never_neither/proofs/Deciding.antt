-- Where what is to be shown is ⊥, each statement may be taken to hold or not.
use Rattle.std.proofs.Common.{ℕ, zero, suc, ◌<◌, ◌⊎◌, inl, inr, arith}

pub decide : (P : Type 0) → (P ⊎ (P → ⊥) → ⊥) → ⊥
decide P none = none (inr (λ p. none (inl p)))

-- what can't be missing at each of finitely many numbers is there at all of them
abbrev with_first : {X : Type 0} → X → (ℕ → X) → ℕ → X
with_first x f zero = x
with_first x f (suc k) = f k

at_all : {X : Type 0} (P : ℕ → X → Type 0) (n : ℕ) (x : X) (f : ℕ → X) → P 0 x → ((k : ℕ) → k < n → P (suc k) (f k))
    → (k : ℕ) → k < suc n → P k (with_first x f k)
at_all P n x f here later zero less = here
at_all P n x f here later (suc k) less = later k (omega (arith, less))

pub choose : {X : Type 0} (P : ℕ → X → Type 0) (d : X) (n : ℕ) → ((k : ℕ) → k < n → ((x : X) → P k x → ⊥) → ⊥)
    → ((f : ℕ → X) → ((k : ℕ) → k < n → P k (f k)) → ⊥) → ⊥
choose P d zero each none = none (λ k. d) (λ k less. absurd (omega (arith, less)))
choose P d (suc n) each none =
    each 0 (omega arith) (λ x here.
    choose (λ k. P (suc k)) d n (λ k less. each (suc k) (omega (arith, less)))
    (λ f later. none (with_first x f) (at_all P n x f here later)))
