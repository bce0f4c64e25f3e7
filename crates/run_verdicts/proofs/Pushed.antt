-- Lists with one item more behind.
use Rattle.std.proofs.Common.{◌≡◌, ℕ, zero, suc, ◌<◌, ◌≤◌, List, [], ◌∷◌, ◌++◌, length, take, slice_get, Some, refl, ap, sym, ◌∙◌, arith}
use Rattle.std.proofs.lemmas.Option.{slice_get_within}

-- items of a list with one behind
pub nth_before : {X : Type 0} (xs : List X) (x : X) (i : ℕ) → i < length xs → slice_get (xs ++ x ∷ []) i ≡ slice_get xs i
nth_before [] x i below = absurd (omega (arith, below))
nth_before (y ∷ xs) x zero below = refl
nth_before (y ∷ xs) x (suc i) below = nth_before xs x i (omega (arith, below))

pub nth_last : {X : Type 0} (xs : List X) (x : X) → slice_get (xs ++ x ∷ []) (length xs) ≡ Some x
nth_last [] x = refl
nth_last (y ∷ xs) x = nth_last xs x

pub one_longer : {X : Type 0} (xs : List X) (x : X) → length (xs ++ x ∷ []) ≡ suc (length xs)
one_longer [] x = refl
one_longer (y ∷ xs) x = ap suc (one_longer xs x)

-- an item that is none of the former ones is the last
pub last_item : {X : Type 0} (xs : List X) (x y : X) (i : ℕ) → length xs ≤ i → slice_get (xs ++ x ∷ []) i ≡ Some y → (i ≡ length xs) × (x ≡ y)
last_item xs x y i past at =
    let within = slice_get_within (xs ++ x ∷ []) i y at in
    let count = one_longer xs x in
    let last : i ≡ length xs = omega (arith, past, within, count) in
    let both : Some x ≡ Some y = sym (nth_last xs x) ∙ ap (slice_get (xs ++ x ∷ [])) (sym last) ∙ at in
    (last, cc)

pub taken_before : {X : Type 0} (xs : List X) (x : X) (i : ℕ) → i ≤ length xs → take i (xs ++ x ∷ []) ≡ take i xs
taken_before xs x zero low = refl
taken_before [] x (suc i) low = absurd (omega (arith, low))
taken_before (y ∷ xs) x (suc i) low = ap (λ (ys : List _). y ∷ ys) (taken_before xs x i (omega (arith, low)))
