-- Members of lists, and the rows of nodes.
use Rattle.std.proofs.Common.{◌≡◌, ℕ, zero, suc, ◌<◌, ◌+◌, ◌⊎◌, inl, inr, true, is_err, List, [], ◌∷◌, ◌++◌, Contains, All, map, length, take, drop, get_or, Result, Ok, Err, ap, sym, subst, ◌∙◌}
use Rattle.std.specs.Result.{OnOk}
use Rattle.std.proofs.lemmas.List.Elements.{Contains-append_left, Contains-append_right, Contains-append_cases, All-head, All-tail}
use Rattle.std.proofs.lemmas.List.{take_more, take-append-drop}
pub use Rattle.row_modules.proofs.Laws.{nothing_contained as nothing_in, contains_first as first_in, contains_later as later_in, first_or_later as first_or_later_in}
use Rattle.lead_basis.proofs.Laws.{basis_rows}
use Rattle.row_modules.specs.Modules.{AreRows}
use Rattle.row_modules.specs.Bases.{IsLeadingBasis}

pub only_in : {X : Type 0} → (y x : X) → Contains (y ∷ []) x → x ≡ y
only_in y x h = elim (first_or_later_in y [] x h) [ inl e ↦ e | inr k ↦ absurd (nothing_in x k) ]

pub map_in : {X Y : Type 0} (f : X → Y) → (xs : List X) (x : X) → Contains xs x → Contains (map f xs) (f x)
map_in f [] x h = absurd (nothing_in x h)
map_in f (y ∷ xs) x h = elim (first_or_later_in y xs x h) [
  | inl e ↦ rw e (first_in (f y) (map f xs))
  | inr k ↦ later_in (f y) (map f xs) (f x) (map_in f xs x k)
]

pub map_out : {X Y : Type 0} (f : X → Y) → (xs : List X) (y : Y) → Contains (map f xs) y → (x : X) × Contains xs x × (y ≡ f x)
map_out f [] y h = absurd (nothing_in y h)
map_out f (x ∷ xs) y h = elim (first_or_later_in (f x) (map f xs) y h) [
  | inl e ↦ (x, first_in x xs, e)
  | inr k ↦ let r = map_out f xs y k in (r.0, later_in x xs r.0 r.1, r.2)
]

pub taken_in : {X : Type 0} → (xs : List X) (i : ℕ) (x : X) → Contains (take i xs) x → Contains xs x
taken_in xs i x h = subst (λ l. Contains l x) (take-append-drop i xs) (Contains-append_left (take i xs) (drop i xs) x h)

module _ {X : Type 0} (xs : List X) (i : ℕ) (x : X) (below : i < length xs) (is : x ≡ get_or xs i x) where
  one_more : take (i + 1) xs ≡ take i xs ++ x ∷ []
  one_more = take_more xs i x below ∙ ap (λ y. take i xs ++ y ∷ []) (sym is)

  pub earlier_taken : (y : X) → Contains (take i xs) y → Contains (take (i + 1) xs) y
  earlier_taken y h = rw one_more (Contains-append_left (take i xs) (x ∷ []) y h)

  pub now_taken : Contains (take (i + 1) xs) x
  now_taken = rw one_more (Contains-append_right (take i xs) (x ∷ []) x (first_in x []))

  pub earlier_or_now : (y : X) → Contains (take (i + 1) xs) y → Contains (take i xs) y ⊎ (y ≡ x)
  earlier_or_now y h = elim (Contains-append_cases (take i xs) (x ∷ []) y (subst (λ l. Contains l y) one_more h)) [ inl k ↦ inl k | inr k ↦ inr (only_in x y k) ]

pub all_rows : (n : ℕ) (bases : List (List (List ℕ))) → All (IsLeadingBasis n) bases → (u : ℕ) → AreRows n (Contains (get_or bases u []))
all_rows n [] all u v h = absurd (nothing_in v h)
all_rows n (b ∷ bases) all zero v h = basis_rows n b (All-head (IsLeadingBasis n) b bases all) v h
all_rows n (b ∷ bases) all (suc u) v h = all_rows n bases (All-tail (IsLeadingBasis n) b bases all) u v h

-- nothing is said of an answer that is an error
pub on_err : {X E : Type 0} (P : Type 0) (result : Result X E) → is_err result ≡ true → OnOk result P
on_err P (Ok x) e = absurd (cc)
on_err P (Err x) e = tt

pub on_ok : {X E : Type 0} (P Q : Type 0) (result : Result X E) → (P → Q) → OnOk result P → OnOk result Q
on_ok P Q (Ok x) f p = f p
on_ok P Q (Err x) f p = tt
