use Rattle.std.proofs.Common.{◌∙◌, ◌≤◌, length, refl, ap, arith}
use Rattle.flow_points.specs.Walks.{most_points}
use Rattle.affine_lift.specs.Lifting.{number_of, offset_from}
use Rattle.affine_lift.proofs.Formed.{lifted_formed}
use Rattle.affine_lift.proofs.Nodes.{few_procedures, table_tells}
use Rattle.affine_lift.proofs.program.lift_by.Goals as goal
use Rattle.affine_lift.proofs.program.lift_by.Goals.{After-procedures}

few : (c : After-procedures) → length c.procedures.result.now ≤ most_points
few c =
    let same = ap length c.procedures.ensures in
    let short = few_procedures c.args.points.now c.known.ensures in
    let most = c.known.ensures.are.few in
    omega arith

pub overflow_cast-result-2 : goal.overflow_cast-result-2
overflow_cast-result-2 c = let small = few c in omega arith

pub overflow_add-result : goal.overflow_add-result
overflow_add-result c = let small = few c in let most = c.count.ensures.few in omega arith

pub returns-clause-lifted : goal.returns-clause-lifted
returns-clause-lifted c = record {
  width = refl;
  registers = c.positions_where.ensures;
  procs = c.from_vec.ensures ∙ c.in_ok-procs.ensures;
  nodes = let count = c.count.ensures.count in let procs = ap length c.procedures.ensures in omega arith;
  owners = c.in_ok-owners.ensures;
  start = c.number_of.ensures.number ∙ ap (number_of c.args.points.now) c.entry.ensures;
  offset = offset_from c.args.points.now c.args.offsets.now;
  offsets_are = table_tells c.args.points.now c.args.offsets.now c.known.ensures c.requires.offsets;
  edges = c.in_ok-edges.ensures;
}

pub returns-clause-formed : goal.returns-clause-formed
returns-clause-formed c = lifted_formed c.args.points.now c.args.names.now _ c.known.ensures c.requires.few (returns-clause-lifted c)
