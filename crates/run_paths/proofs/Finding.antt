-- The code of a point is found at its address.
use Rattle.std.proofs.Common.{◌≡◌, Bool, true, false, List, [], ◌∷◌, find, Contains, slice_get, Some, refl, ap, sym, ◌∙◌, arith, subst, inl, inr, if◌then◌else◌}
use Rattle.std.proofs.lemmas.List.Elements.{Contains-append_right}
use Rattle.flow_points.specs.Walks.{successors_of}
use Rattle.flow_points.specs.PointLists.{FlowPoints, HasCode}
use Rattle.flow_points.specs.declared.code_points.Point.{Point}
use Rattle.flow_points.specs.declared.code_points.CodePoint.{CodePoint}
use Rattle.flow_points.proofs.Cited.{cons_cases, from_map}
use Rattle.flow_points.proofs.PointLaws.{goes_on}
use Rattle.flow_points.proofs.SamePoint.{itself, same}
use Rattle.frame_offsets.proofs.Walking.{same_place}
use Rattle.affine_lift.specs.Lifting.{is_at}
use Rattle.affine_lift.proofs.Cited.{number_at}

found_first : {X : Type 0} (p : X → Bool) (y : X) (ys : List X) (x : X) (t : Bool) → p y ≡ t → Contains (y ∷ ys) x → p x ≡ true
    → ((z : X) → Contains (y ∷ ys) z → p z ≡ true → z ≡ x) → (Contains ys x → find p ys ≡ Some x) → (if t then Some y else find p ys) ≡ Some x
found_first p y ys x true e there passes one rest = ap Some (one y (0, omega arith, refl) e)
found_first p y ys x false e there passes one rest =
    elim (cons_cases y ys x there) [
      | inl here ↦ let bad : false ≡ true = sym e ∙ ap p here ∙ passes in cc bad
      | inr later ↦ rest later
    ]

find_is : {X : Type 0} (p : X → Bool) (xs : List X) (x : X) → Contains xs x → p x ≡ true
    → ((y : X) → Contains xs y → p y ≡ true → y ≡ x) → find p xs ≡ Some x
find_is p [] x there passes one = absurd (omega (arith, there.1))
find_is p (y ∷ ys) x there passes one =
    found_first p y ys x (p y) refl there passes one
    (λ later. find_is p ys x later passes (λ z at. one z (Contains-append_right (y ∷ []) ys z at)))

module _ (points : FlowPoints) (has : HasCode points) where
  pub one_code : (c d : CodePoint) → Contains points.points c → Contains points.points d → c.point ≡ d.point → c ≡ d
  one_code c d there other is =
      let i = number_at points.points c there in
      let j = number_at points.points d other in
      let here : i.0 ≡ j.0 = same_place points i.0 j.0 c d has i.1 j.1 is in
      let both : Some c ≡ Some d = sym i.1 ∙ ap (slice_get points.points) here ∙ j.1 in
      cc both

  pub found : (c : CodePoint) (q : Point) → Contains points.points c → c.point ≡ q → find (is_at q) points.points ≡ Some c
  found c q there is =
      find_is (is_at q) points.points c there (subst (λ (p : Point). is_at p c ≡ true) is (itself c.point))
      (λ d at passes. one_code d c at there (same d.point q passes ∙ sym is))

  -- the code where a flow goes on, and at the entry
  pub next_code : (c : CodePoint) (to : Point) → Contains points.points c → Contains (successors_of c.point.proc_entry c.flow) to
      → (d : CodePoint) × Contains points.points d × (d.point ≡ to)
  next_code c to there goes = from_map (λ (d : CodePoint). d.point) points.points to (goes_on points c to has there goes)
