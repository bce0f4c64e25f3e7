-- A text is cut at its first equals sign.
use Rattle.std.proofs.Common.{◌≡◌, ◌≢◌, ℕ, suc, List, [], ◌∷◌, ◌++◌, refl, subst, arith}
use Rattle.start_registers.specs.Settings.{HasNoEquals}

pub one_cut : (xs ys vs ws : List ℕ) → HasNoEquals xs → HasNoEquals vs
    → xs ++ 61 ∷ ys ≡ vs ++ 61 ∷ ws → (xs ≡ vs) × (ys ≡ ws)
one_cut [] ys [] ws clean other e = let rest : ys ≡ ws = cc in (refl, rest)
one_cut [] ys (v ∷ vs) ws clean other e = let sign : v ≡ 61 = cc in absurd (other 0 (omega arith) sign)
one_cut (x ∷ xs) ys [] ws clean other e = let sign : x ≡ 61 = cc in absurd (clean 0 (omega arith) sign)
one_cut (x ∷ xs) ys (v ∷ vs) ws clean other e =
    let head : x ≡ v = cc in
    let tail : xs ++ 61 ∷ ys ≡ vs ++ 61 ∷ ws = cc in
    let rest = one_cut xs ys vs ws (λ i below. clean (suc i) (omega arith)) (λ i below. other (suc i) (omega arith)) tail in
    let names : x ∷ xs ≡ v ∷ vs = λ k. head k ∷ rest.0 k in (names, rest.1)

has_sign : (xs ys : List ℕ) → HasNoEquals (xs ++ 61 ∷ ys) → ⊥
has_sign [] ys clean = clean 0 (omega arith) refl
has_sign (x ∷ xs) ys clean = has_sign xs ys (λ i below. clean (suc i) (omega arith))

pub no_cut : (text xs ys : List ℕ) → HasNoEquals text → text ≢ xs ++ 61 ∷ ys
no_cut text xs ys clean e = has_sign xs ys (subst HasNoEquals e clean)
