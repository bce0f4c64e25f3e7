-- Lists: what stands in them, and what holds of all their items.
use Rattle.std.proofs.Common.{◌≡◌, ◌⊎◌, ℕ, List, [], ◌∷◌, map, false, Option, None, Some, is_some, slice_get, All, Contains, refl, ap, subst, ◌∙◌, inl, inr, get_or, arith}
use Rattle.std.proofs.lemmas.Bool.{true≢false}
use Rattle.std.proofs.lemmas.List.{get_or-map, length-map}
use Rattle.std.proofs.lemmas.List.Elements.{All-contains, All-cons, All-nil, Contains-append_cases, Contains-append_right, Contains-get_or}
use Rattle.std.proofs.lemmas.Option.{get_or_from_slice_get, slice_get_within}

pub alone : {X : Type 0} (x : X) → Contains (x ∷ []) x
alone x = Contains-get_or (x ∷ []) 0 x (omega arith)

pub first : {X : Type 0} (x y : X) → Contains (x ∷ y ∷ []) x
first x y = Contains-get_or (x ∷ y ∷ []) 0 x (omega arith)

pub second : {X : Type 0} (x y : X) → Contains (x ∷ y ∷ []) y
second x y = Contains-get_or (x ∷ y ∷ []) 1 y (omega arith)

pub all_one : {X : Type 0} (P : X → Type 0) (x : X) → P x → All P (x ∷ [])
all_one P x h = All-cons P x [] h (All-nil P)

pub all_two : {X : Type 0} (P : X → Type 0) (x y : X) → P x → P y → All P (x ∷ y ∷ [])
all_two P x y h k = All-cons P x (y ∷ []) h (all_one P y k)

-- an item that a list has at a place, and what holds of all items
pub item_there : {X : Type 0} (xs : List X) (i : ℕ) (x : X) → slice_get xs i ≡ Some x → Contains xs x
item_there xs i x e = (i, slice_get_within xs i x e, get_or_from_slice_get xs i x x e)

pub all_at : {X : Type 0} (P : X → Type 0) (xs : List X) (i : ℕ) (x : X) → slice_get xs i ≡ Some x → All P xs → P x
all_at P xs i x e all = All-contains P xs x all (item_there xs i x e)

pub Contains-map : {X Y : Type 0} (f : X → Y) (xs : List X) (x : X) → Contains xs x → Contains (map f xs) (f x)
Contains-map f xs x h =
    (h.0, omega (arith, h.1, length-map xs f), get_or-map f xs h.0 x (f x) h.1 ∙ ap f h.2)

-- an item of a list with a first item, and of a list that is mapped
pub only : {X : Type 0} (x y : X) → Contains (x ∷ []) y → x ≡ y
only x y k = let first : k.0 ≡ 0 = omega (arith, k.1) in subst (λ (n : ℕ). get_or (x ∷ []) n y ≡ y) first k.2

pub cons_cases : {X : Type 0} (x : X) (xs : List X) (y : X) → Contains (x ∷ xs) y → (x ≡ y) ⊎ Contains xs y
cons_cases x xs y h = elim (Contains-append_cases (x ∷ []) xs y h) [ inl k ↦ inl (only x y k) | inr k ↦ inr k ]

pub from_map : {X Y : Type 0} (f : X → Y) (xs : List X) (y : Y) → Contains (map f xs) y → (x : X) × Contains xs x × (f x ≡ y)
from_map f [] y h = absurd (omega (arith, h.1))
from_map f (x ∷ xs) y h =
    elim (cons_cases (f x) (map f xs) y h) [
      | inl e ↦ (x, Contains-get_or (x ∷ xs) 0 x (omega arith), e)
      | inr k ↦ let found = from_map f xs y k in (found.0, Contains-append_right (x ∷ []) xs found.0 found.1, found.2)
    ]

pub no_value : {X : Type 0} (o : Option X) → is_some o ≡ false → o ≡ None
no_value None e = refl
no_value (Some x) e = absurd (true≢false e)
