-- Two ascending lists with the same members are one.
use Rattle.std.proofs.Common.{◌≡◌, suc, List, [], ◌∷◌, AllPairs, Contains, inl, inr, refl, ap, sym, ◌∙◌, arith, subst}
use Rattle.std.proofs.lemmas.List.Elements.{All-contains, Contains-append_right}
use Rattle.flow_points.proofs.Cited.{cons_cases}

module _ {X : Type 0} (Before : X → X → Type 0) (apart : (x y : X) → Before x y → Before y x → ⊥) where
  tail_ascends : (x : X) (xs : List X) → AllPairs Before (x ∷ xs) → AllPairs Before xs
  tail_ascends x xs up i j d below within = up (suc i) (suc j) d (omega (arith, below)) (omega (arith, within))

  head_before : (x : X) (xs : List X) → AllPairs Before (x ∷ xs) → (y : X) → Contains xs y → Before x y
  head_before x xs up y there =
      All-contains (Before x) xs y (λ k d within. up 0 (suc k) d (omega arith) (omega (arith, within))) there

  head_there : (x : X) (xs : List X) → Contains (x ∷ xs) x
  head_there x xs = (0, omega arith, refl)

  tail_there : (x : X) (xs : List X) (y : X) → Contains xs y → Contains (x ∷ xs) y
  tail_there x xs y there = Contains-append_right (x ∷ []) xs y there

  abbrev Within : List X → List X → Type 0
  Within xs ys = (x : X) → Contains xs x → Contains ys x

  one_head : (x y : X) (xs ys : List X) → AllPairs Before (x ∷ xs) → AllPairs Before (y ∷ ys) → Contains (y ∷ ys) x
      → Contains (x ∷ xs) y → x ≡ y
  one_head x y xs ys up rise to back =
      elim (cons_cases y ys x to) [
        | inl same ↦ sym same
        | inr later ↦ elim (cons_cases x xs y back) [
          | inl same ↦ same
          | inr after ↦ absurd (apart x y (head_before x xs up y after) (head_before y ys rise x later))
        ]
      ]

  tail_within : (x y : X) (xs ys : List X) → AllPairs Before (x ∷ xs) → x ≡ y → Within (x ∷ xs) (y ∷ ys) → Within xs ys
  tail_within x y xs ys up same within z there =
      elim (cons_cases y ys z (within z (tail_there x xs z there))) [
        | inl here ↦
            let itself = subst (Before x) (sym (same ∙ here)) (head_before x xs up z there) in absurd (apart x x itself itself)
        | inr later ↦ later
      ]

  pub one_list : (xs ys : List X) → AllPairs Before xs → AllPairs Before ys → Within xs ys → Within ys xs → xs ≡ ys
  one_list [] [] up rise to back = refl
  one_list [] (y ∷ ys) up rise to back = let there = back y (head_there y ys) in absurd (omega (arith, there.1))
  one_list (x ∷ xs) [] up rise to back = let there = to x (head_there x xs) in absurd (omega (arith, there.1))
  one_list (x ∷ xs) (y ∷ ys) up rise to back =
      let heads = one_head x y xs ys up rise (to x (head_there x xs)) (back y (head_there y ys)) in
      let tails = one_list xs ys (tail_ascends x xs up) (tail_ascends y ys rise) (tail_within x y xs ys up heads to)
      (tail_within y x ys xs rise (sym heads) back) in
      ap (λ (z : X). z ∷ xs) heads ∙ ap (λ (zs : List X). y ∷ zs) tails
