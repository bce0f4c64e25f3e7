-- Items of lists, by their places.
use Rattle.std.proofs.Common.{◌≡◌, inl, inr, ℕ, zero, suc, ◌+◌, ◌<◌, List, [], ◌∷◌, map, length, get_or, slice_get, Contains, Some, refl, sym, ap, subst, ◌∙◌, arith}
use Rattle.std.proofs.lemmas.List.{get_or-map, length-map}
use Rattle.std.proofs.lemmas.Bool.{cases_lt}
use Rattle.std.proofs.lemmas.Option.{get_or_from_slice_get, slice_get_within}

pub at_there : {X : Type 0} (xs : List X) (i : ℕ) (d : X) → i < length xs → slice_get xs i ≡ Some (get_or xs i d)
at_there [] i d within = absurd (omega (arith, within))
at_there (x ∷ xs) zero d within = refl
at_there (x ∷ xs) (suc i) d within = at_there xs i d (omega (arith, within))

item_there : {X : Type 0} (xs : List X) (i : ℕ) (x : X) → slice_get xs i ≡ Some x → Contains xs x
item_there xs i x e = (i, slice_get_within xs i x e, get_or_from_slice_get xs i x x e)

pub mapped : {X Y : Type 0} (f : X → Y) (xs : List X) (i : ℕ) (x : X) → slice_get xs i ≡ Some x → Contains (map f xs) (f x)
mapped f xs i x e =
    let h = item_there xs i x e in
    (h.0, omega (arith, h.1, length-map xs f), get_or-map f xs h.0 x (f x) h.1 ∙ ap f h.2)

pub record From {X Y : Type 0} (f : X → Y) (xs : List X) (y : Y) : Type 0 where
  pub i : ℕ
  pub x : X
  pub is : slice_get xs i ≡ Some x
  pub gives : f x ≡ y

from_places : {X Y : Type 0} (f : X → Y) (xs : List X) (y : Y) (i : ℕ) → i < length (map f xs) → get_or (map f xs) i y ≡ y → From f xs y
from_places f [] y i within e = absurd (omega (arith, within))
from_places f (x ∷ xs) y zero within e = record { i = 0; x = x; is = refl; gives = e }
from_places f (x ∷ xs) y (suc i) within e =
    let r = from_places f xs y i (omega (arith, within)) e in record { i = suc r.i; x = r.x; is = r.is; gives = r.gives }

pub from_map : {X Y : Type 0} (f : X → Y) (xs : List X) (y : Y) → Contains (map f xs) y → From f xs y
from_map f xs y h = from_places f xs y h.0 h.1 h.2

-- what holds below a number, and at it
pub below_more : (P : ℕ → Type 0) (n : ℕ) → ((k : ℕ) → k < n → P k) → P n → (k : ℕ) → k < n + 1 → P k
below_more P n below at k within = elim (cases_lt k n) [
  | inl h ↦ below k h
  | inr h ↦ let e : n ≡ k = omega (arith, h, within) in subst P e at
]

-- an item that was read from a list that is the same
pub item_read : {X : Type 0} (xs ys : List X) (i : ℕ) (x : X) → ys ≡ xs → i < length xs → x ≡ get_or ys i x → slice_get xs i ≡ Some x
item_read xs ys i x same within is = at_there xs i x within ∙ ap Some (ap (λ zs. get_or zs i x) (sym same) ∙ sym is)
