-- What `find` finds.
use Rattle.std.proofs.Common.{◌≡◌, Bool, true, false, cond, List, [], ◌∷◌, None, Some, All, find, refl, subst}
use Rattle.std.proofs.lemmas.List.Elements.{All-head, All-tail, All-cons, All-nil}

-- it passes the test
pub found_passes : {X : Type 0} (p : X → Bool) (xs : List X) (x : X) → find p xs ≡ Some x → p x ≡ true
found_passes p [] x found = absurd (cc)
found_passes p (y ∷ ys) x found =
    elim (p y) as (λ b. p y ≡ b → cond b (Some y) (find p ys) ≡ Some x → p x ≡ true) [
      | true ↦ λ passes here. cc
      | false ↦ λ fails later. found_passes p ys x later
    ] refl found

-- it has what each element has
pub found_has : {X : Type 0} (P : X → Type 0) (p : X → Bool) (xs : List X) (x : X) → All P xs → find p xs ≡ Some x → P x
found_has P p [] x all found = absurd (cc)
found_has P p (y ∷ ys) x all found =
    elim (p y) as (λ b. cond b (Some y) (find p ys) ≡ Some x → P x) [
      | true ↦ λ here. let same : y ≡ x = cc in subst P same (All-head P y ys all)
      | false ↦ λ later. found_has P p ys x (All-tail P y ys all) later
    ] found

-- where it finds none, each element fails the test
pub find-none : {X : Type 0} (p : X → Bool) (xs : List X) → find p xs ≡ None → All (λ x. p x ≡ false) xs
find-none p [] none = All-nil _
find-none p (x ∷ xs) none =
    elim (p x) as (λ b. p x ≡ b → cond b (Some x) (find p xs) ≡ None → All (λ y. p y ≡ false) (x ∷ xs)) [
      | true ↦ λ passes here. absurd (cc)
      | false ↦ λ fails later. All-cons (λ y. p y ≡ false) x xs fails (find-none p xs later)
    ] refl none
