-- Points, and rows over the names that are seen there.
use Rattle.std.proofs.Common.{◌≡◌, ℕ, ◌<◌, List, Contains, Ok, Some, length, subst, sym, arith}
use Rattle.std.specs.Prelude.{IsSomeAnd, slice_get}
use Rattle.std.proofs.lemmas.Option.{slice_get_within}
use Rattle.flow_points.specs.PointLists.{FlowPoints, places_of}
use Rattle.flow_points.specs.declared.code_points.Point.{Point}
use Rattle.flow_points.specs.declared.code_points.CodePoint.{CodePoint}
use Rattle.flow_points.proofs.Cited.{Contains-map, item_there}
use Rattle.report_text.specs.declared.names.Name.{Name}
use Rattle.affine_prog.specs.declared.Program.{Program}
use Rattle.affine_lift.specs.Lifting.{IsLifted}
use Rattle.analyser_core.proofs.PointsTold.{some_code}

pub place_there : (points : FlowPoints) (node : ℕ) (at : Point) → IsSomeAnd (slice_get points.points node) (λ c. c.point ≡ at) → Contains (places_of points.points) at
place_there points node at there =
    let code = some_code points.points node (λ c. c.point ≡ at) there in
    subst (Contains (places_of points.points)) code.2 (Contains-map (λ (c : CodePoint). c.point) points.points code.0 (item_there points.points node code.0 code.1))

pub node_small : (points : FlowPoints) (names : List Name) (program : Program) (node : ℕ) (at : Point) → IsLifted points names program
    → IsSomeAnd (slice_get points.points node) (λ c. c.point ≡ at) → node < program.nodes
node_small points names program node at lifted there =
    let code = some_code points.points node (λ c. c.point ≡ at) there in
    let within = slice_get_within points.points node code.0 code.1 in
    omega (arith, lifted.nodes)
