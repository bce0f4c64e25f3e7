-- The instructions of points are one list.
use Rattle.std.proofs.Common.{◌≡◌, suc, ◌<◌, List, [], ◌∷◌, map, AllPairs, Contains, inl, inr, refl, ap, sym, ◌∙◌, arith, subst}
use Rattle.std.proofs.lemmas.List.Elements.{All-contains, Contains-append_right}
use Rattle.flow_points.specs.declared.code_points.CodePoint.{CodePoint}
use Rattle.flow_points.proofs.Cited.{cons_cases, from_map}
use Rattle.run_watch.specs.Runs.{AreInstructionsOf, instruction_of}
use Rattle.run_watch.specs.declared.places.CodeAt.{CodeAt}

abbrev Ascend : List CodeAt → Type 0
Ascend code = AllPairs (λ a b. a.address < b.address) code

tail_ascends : (x : CodeAt) (xs : List CodeAt) → Ascend (x ∷ xs) → Ascend xs
tail_ascends x xs up i j d below within = up (suc i) (suc j) d (omega (arith, below)) (omega (arith, within))

head_below : (x : CodeAt) (xs : List CodeAt) → Ascend (x ∷ xs) → (y : CodeAt) → Contains xs y → x.address < y.address
head_below x xs up y there =
    All-contains (λ (c : CodeAt). x.address < c.address) xs y (λ k d within. up 0 (suc k) d (omega arith) (omega (arith, within)))
    there

head_there : (x : CodeAt) (xs : List CodeAt) → Contains (x ∷ xs) x
head_there x xs = (0, omega arith, refl)

tail_there : (x : CodeAt) (xs : List CodeAt) (y : CodeAt) → Contains xs y → Contains (x ∷ xs) y
tail_there x xs y there = Contains-append_right (x ∷ []) xs y there

abbrev Within : List CodeAt → List CodeAt → Type 0
Within xs ys = (c : CodeAt) → Contains xs c → Contains ys c

one_head : (x y : CodeAt) (xs ys : List CodeAt) → Ascend (x ∷ xs) → Ascend (y ∷ ys) → Contains (y ∷ ys) x → Contains (x ∷ xs) y
    → x ≡ y
one_head x y xs ys up rise to back =
    elim (cons_cases y ys x to) [
      | inl same ↦ sym same
      | inr later ↦ elim (cons_cases x xs y back) [
        | inl same ↦ same
        | inr after ↦
            let low = head_below y ys rise x later in
            let high = head_below x xs up y after in
            absurd (omega (arith, low, high))
      ]
    ]

tail_within : (x y : CodeAt) (xs ys : List CodeAt) → Ascend (x ∷ xs) → x ≡ y → Within (x ∷ xs) (y ∷ ys) → Within xs ys
tail_within x y xs ys up same within c there =
    elim (cons_cases y ys c (within c (tail_there x xs c there))) [
      | inl here ↦
          let low = head_below x xs up c there in
          let equal : x.address ≡ c.address = ap (λ (d : CodeAt). d.address) (same ∙ here) in
          absurd (omega (arith, low, equal))
      | inr later ↦ later
    ]

one_list : (xs ys : List CodeAt) → Ascend xs → Ascend ys → Within xs ys → Within ys xs → xs ≡ ys
one_list [] [] up rise to back = refl
one_list [] (y ∷ ys) up rise to back = let there = back y (head_there y ys) in absurd (omega (arith, there.1))
one_list (x ∷ xs) [] up rise to back = let there = to x (head_there x xs) in absurd (omega (arith, there.1))
one_list (x ∷ xs) (y ∷ ys) up rise to back =
    let heads = one_head x y xs ys up rise (to x (head_there x xs)) (back y (head_there y ys)) in
    let tails = one_list xs ys (tail_ascends x xs up) (tail_ascends y ys rise) (tail_within x y xs ys up heads to)
    (tail_within y x ys xs rise (sym heads) back) in
    ap (λ (c : CodeAt). c ∷ xs) heads ∙ ap (λ (cs : List CodeAt). y ∷ cs) tails

module _ (points : List CodePoint) where
  within : (code other : List CodeAt) → AreInstructionsOf points code → AreInstructionsOf points other → Within code other
  within code other h k at there =
      let from = from_map instruction_of points at (All-contains (Contains (map instruction_of points)) code at h.only there) in
      subst (Contains other) from.2
      (All-contains (λ (d : CodePoint). Contains other (instruction_of d)) points from.0 k.all from.1)

  pub one_code_list : (code other : List CodeAt) → AreInstructionsOf points code → AreInstructionsOf points other → code ≡ other
  one_code_list code other h k =
      one_list code other h.ascending k.ascending (within code other h k) (within other code k h)
