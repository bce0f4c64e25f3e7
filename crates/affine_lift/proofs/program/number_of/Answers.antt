use Rattle.std.proofs.Common.{◌<◌, ◌≤◌, length, ap, arith}
use Rattle.flow_points.specs.Walks.{most_points}
use Rattle.frame_offsets.proofs.Walking.{if_some}
use Rattle.affine_lift.proofs.Nodes.{few_procedures}
use Rattle.affine_lift.proofs.program.number_of.Goals as goal
use Rattle.affine_lift.proofs.program.number_of.Goals.{In-Some}

small : (c : In-Some) → c.in-Some.number ≤ most_points
small c =
    let within : c.in-Some.number < length c.procedures.result.now = if_some c.place_in.result c.in-Some.number _ c.in-Some.is c.place_in.ensures.within in
    let same = ap length c.procedures.ensures in
    let few = few_procedures c.args.points.now c.known.ensures in
    let most = c.known.ensures.are.few in
    omega arith

pub overflow_cast-result : goal.overflow_cast-result
overflow_cast-result c = let few = small c in omega arith

pub returns-in-Some-clause-few : goal.returns-in-Some-clause-few
returns-in-Some-clause-few c = small c
