-- Which items of a list pass a test.
use Rattle.std.proofs.Common.{◌≡◌, Bool, true, false, cond, List, [], ◌∷◌, find, filter, Contains, Option, None, Some, inl, inr, refl, ap, sym, ◌∙◌, arith, subst}
use Rattle.std.specs.List.{list_all, list_any}
use Rattle.std.proofs.lemmas.Bool.{and_from, and_parts, or_from, or_parts}
use Rattle.std.proofs.lemmas.List.Elements.{Contains-append_right}
use Rattle.flow_points.proofs.Cited.{cons_cases}

-- a test of a list that is one of its first item and one of the others
module _ {X : Type 0} (Q : X → Type 0) (T : List X → Type 0) where
  each_of : ((y : X) (ys : List X) → T (y ∷ ys) → Q y × T ys) → (xs : List X) → T xs → (x : X) → Contains xs x → Q x
  each_of split [] whole x there = absurd (omega (arith, there.1))
  each_of split (y ∷ xs) whole x there =
      let parts = split y xs whole in
      elim (cons_cases y xs x there) [
        | inl same ↦ subst Q same parts.0
        | inr later ↦ each_of split xs parts.1 x later
      ]

  whole_of : T [] → ((y : X) (ys : List X) → Q y → T ys → T (y ∷ ys)) → (xs : List X) → ((x : X) → Contains xs x → Q x) → T xs
  whole_of none join [] each = none
  whole_of none join (y ∷ xs) each =
      join y xs (each y (0, omega arith, refl)) (whole_of none join xs (λ x later. each x (Contains-append_right (y ∷ []) xs x later)))

module _ {X : Type 0} (p : X → Bool) where
  none_here : (t : Bool) (x : X) (o : Option X) → cond t (Some x) o ≡ None → (t ≡ false) × (o ≡ None)
  none_here true x o e = cc
  none_here false x o e = (refl, e)

  pub found_none : (xs : List X) → find p xs ≡ None → (x : X) → Contains xs x → p x ≡ false
  found_none = each_of (λ x. p x ≡ false) (λ xs. find p xs ≡ None) (λ y ys none. none_here (p y) y (find p ys) none)

  pub none_found : (xs : List X) → ((x : X) → Contains xs x → p x ≡ false) → find p xs ≡ None
  none_found =
      whole_of (λ x. p x ≡ false) (λ xs. find p xs ≡ None) refl
      (λ y ys fails none. ap (λ (t : Bool). cond t (Some y) (find p ys)) fails ∙ none)

  pub any_passes_not : (xs : List X) → list_any p xs ≡ false → (x : X) → Contains xs x → p x ≡ false
  any_passes_not = each_of (λ x. p x ≡ false) (λ xs. list_any p xs ≡ false) (λ y ys none. or_parts (p y) (list_any p ys) none)

  pub none_passes : (xs : List X) → ((x : X) → Contains xs x → p x ≡ false) → list_any p xs ≡ false
  none_passes = whole_of (λ x. p x ≡ false) (λ xs. list_any p xs ≡ false) refl (λ y ys fails none. or_from (p y) (list_any p ys) fails none)

  pub each_passes : (xs : List X) → list_all p xs ≡ true → (x : X) → Contains xs x → p x ≡ true
  each_passes = each_of (λ x. p x ≡ true) (λ xs. list_all p xs ≡ true) (λ y ys all. and_parts (p y) (list_all p ys) all)

  pub all_pass : (xs : List X) → ((x : X) → Contains xs x → p x ≡ true) → list_all p xs ≡ true
  all_pass = whole_of (λ x. p x ≡ true) (λ xs. list_all p xs ≡ true) refl (λ y ys passes all. and_from (p y) (list_all p ys) passes all)

  one_more : (t : Bool) (y : X) (ys : List X) (x : X) → Contains ys x → Contains (cond t (y ∷ ys) ys) x
  one_more true y ys x there = Contains-append_right (y ∷ []) ys x there
  one_more false y ys x there = there

  pub passing : (xs : List X) (x : X) → Contains xs x → p x ≡ true → Contains (filter p xs) x
  passing [] x there passes = absurd (omega (arith, there.1))
  passing (y ∷ xs) x there passes =
      elim (cons_cases y xs x there) [
        | inl same ↦
            subst (λ (t : Bool). Contains (cond t (y ∷ filter p xs) (filter p xs)) x) (sym (ap p same ∙ passes))
            (0, omega arith, same)
        | inr later ↦ one_more (p y) y (filter p xs) x (passing xs x later passes)
      ]

  here_or_later : (t : Bool) (y : X) (xs ys : List X) (x : X) → p y ≡ t → Contains (cond t (y ∷ ys) ys) x
      → (Contains ys x → Contains xs x × (p x ≡ true)) → Contains (y ∷ xs) x × (p x ≡ true)
  here_or_later true y xs ys x is there rest =
      elim (cons_cases y ys x there) [
        | inl same ↦ ((0, omega arith, same), ap p (sym same) ∙ is)
        | inr later ↦ let found = rest later in (Contains-append_right (y ∷ []) xs x found.0, found.1)
      ]
  here_or_later false y xs ys x is there rest =
      let found = rest there in (Contains-append_right (y ∷ []) xs x found.0, found.1)

  pub passed : (xs : List X) (x : X) → Contains (filter p xs) x → Contains xs x × (p x ≡ true)
  passed [] x there = absurd (omega (arith, there.1))
  passed (y ∷ xs) x there = here_or_later (p y) y xs (filter p xs) x refl there (passed xs x)
