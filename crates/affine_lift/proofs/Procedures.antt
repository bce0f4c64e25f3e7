-- The numbers of procedures, and the points at their entries.
use Rattle.std.proofs.Common.{◌≡◌, ◌∙◌, ℕ, ◌==◌, List, slice_get, unwrap_or, Contains, Option, Some, inl, inr, refl, sym, ap, subst, arith}
use Rattle.std.proofs.lemmas.Bool.{cases_lt, eq-eqb, eqb-true}
use Rattle.std.proofs.lemmas.List.Kept.{AllPairs-from_increasing}
use Rattle.std.proofs.lemmas.Option.{get_or_from_slice_get, slice_get_within}
use Rattle.flow_points.specs.Walks.{point}
use Rattle.flow_points.specs.PointLists.{FlowPoints, HasCode, entries_of, places_of}
use Rattle.flow_points.specs.declared.code_points.Point.{Point}
use Rattle.flow_points.specs.declared.code_points.CodePoint.{CodePoint}
use Rattle.flow_points.proofs.Cited.{from_map}
use Rattle.flow_points.proofs.Lists.{Contains-map}
use Rattle.flow_points.proofs.PointLaws.{all_procedures, ascending, only_procedures}
use Rattle.frame_offsets.specs.Frames.{FrameWalk, begin, onward}
use Rattle.frame_offsets.proofs.EachWalked.{has_walk}
use Rattle.affine_lift.specs.Lifting.{node_of, number_of}
use Rattle.affine_lift.proofs.FirstPlaces.{position_is}
use Rattle.affine_lift.proofs.Nodes.{node_is, number_at}

module _ (points : FlowPoints) (has : HasCode points) where
  one_number : (i j a : ℕ) → slice_get points.procedures i ≡ Some a → slice_get points.procedures j ≡ Some a → j ≡ i
  one_number i j a at other =
      let pairs = AllPairs-from_increasing points.procedures (ascending points has) in
      let below = slice_get_within points.procedures i a at in
      let within = slice_get_within points.procedures j a other in
      let first = get_or_from_slice_get points.procedures i a 0 at in
      let second = get_or_from_slice_get points.procedures j a 0 other in
      elim (cases_lt i j) [
        | inl less ↦ absurd (let order = pairs i j 0 less within in omega arith)
        | inr least ↦ elim (cases_lt j i) [
          | inl less ↦ absurd (let order = pairs j i 0 less below in omega arith)
          | inr most ↦ omega arith
        ]
      ]

  pub number_is : (i a : ℕ) → slice_get points.procedures i ≡ Some a → number_of points a ≡ i
  number_is i a at =
      ap (λ (o : Option ℕ). unwrap_or o 0) (position_is (λ p. p == a) points.procedures i a at (eq-eqb a a refl)
      (λ j p there passes. one_number i j a at (there ∙ ap Some (eqb-true p a passes))))

  -- a procedure stands at its number
  pub stands : (a : ℕ) → Contains points.procedures a → slice_get points.procedures (number_of points a) ≡ Some a
  stands a there =
      let found = number_at points.procedures a there in
      subst (λ (i : ℕ). slice_get points.procedures i ≡ Some a) (sym (number_is found.0 a found.1)) found.1

  pub owner_there : (q : Point) → Contains (places_of points.points) q → Contains points.procedures q.proc_entry
  owner_there q there =
      let found = from_map (λ (c : CodePoint). c.point) points.points q there in
      all_procedures points q.proc_entry has (subst (Contains (entries_of points.points)) (ap (λ (r : Point). r.proc_entry) found.2)
      (Contains-map (λ (c : CodePoint). c.point.proc_entry) points.points found.0 found.1))

  walk_begins : (p : ℕ) (walk : List CodePoint) (c : CodePoint) → FrameWalk points.points p walk c → Contains (places_of points.points) (point p p)
  walk_begins p walk c (begin w d e at is) =
      subst (Contains (places_of points.points)) is (Contains-map (λ (x : CodePoint). x.point) points.points d at)
  walk_begins p walk c (onward w earlier from to before e at goes) = walk_begins p earlier from before

  pub entry_there : (a : ℕ) → Contains points.procedures a → Contains (places_of points.points) (point a a)
  entry_there a there =
      let found = from_map (λ (c : CodePoint). c.point.proc_entry) points.points a (only_procedures points a has there) in
      let walk = has_walk points found.0 has found.1 in
      subst (λ (p : ℕ). Contains (places_of points.points) (point p p)) found.2 (walk_begins found.0.point.proc_entry walk.0 found.0 walk.1)

  -- the code of a point, at its node
  pub code_there : (q : Point) → Contains (places_of points.points) q → (c : CodePoint) × (slice_get points.points (node_of points q) ≡ Some c) × (c.point ≡ q)
  code_there q there =
      let found = from_map (λ (c : CodePoint). c.point) points.points q there in
      let at = number_at points.points found.0 found.1 in
      (found.0, subst (λ (i : ℕ). slice_get points.points i ≡ Some found.0) (sym (node_is points at.0 found.0 q has at.1 found.2)) at.1, found.2)
