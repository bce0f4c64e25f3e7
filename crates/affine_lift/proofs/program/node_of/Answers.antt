use Rattle.std.proofs.Common.{◌≡◌, ◌∙◌, ℕ, slice_get, unwrap_or, Contains, Option, None, Some, IfNone, IfSome, IsSomeAnd, sym}
use Rattle.flow_points.specs.Walks.{point}
use Rattle.flow_points.specs.PointLists.{FlowPoints, HasCode, places_of}
use Rattle.flow_points.specs.declared.code_points.Point.{Point}
use Rattle.flow_points.specs.declared.code_points.CodePoint.{CodePoint}
use Rattle.frame_offsets.proofs.Walking.{get_some}
use Rattle.affine_lift.specs.Lifting.{node_of}
use Rattle.affine_lift.proofs.Nodes.{node_is, no_node}
use Rattle.affine_lift.proofs.program.node_of.Goals as goal

found_node : (points : FlowPoints) (p : Point) (o : Option ℕ) → HasCode points
    → IfSome o (λ i. IsSomeAnd (slice_get points.points i) (λ c. c.point ≡ p)) → IfNone o (Contains (places_of points.points) p → ⊥)
    → unwrap_or o 0 ≡ node_of points p
found_node points p None has there absent = sym (no_node points p absent)
found_node points p (Some i) has there absent =
    let c = get_some (slice_get points.points i) (λ (d : CodePoint). d.point ≡ p) there in
    sym (node_is points i c.0 p has c.1 c.2)

pub returns : goal.returns
returns c =
    c.unwrap_or.ensures ∙ found_node c.args.points.now (point c.args.proc_entry c.args.address) c.find.result c.known.ensures c.find.ensures.found c.find.ensures.none
