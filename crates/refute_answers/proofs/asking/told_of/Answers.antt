use Rattle.std.proofs.Common.{◌≡◌, ℕ, subst, sym}
use Rattle.flow_points.specs.declared.code_points.Point.{Point}
use Rattle.report_text.specs.Names.{IsSeenAt}
use Rattle.affine_lift.specs.declared.width.Width.TheVariants.{Wide}
use Rattle.analyser_core.proofs.PointsTold.{some_code}
use Rattle.refute_answers.proofs.PointsAsked.{place_there, node_small}
use Rattle.refute_answers.proofs.asking.told_of.Goals as goal

pub returns-in-Err-read_row : goal.returns-in-Err-read_row
returns-in-Err-read_row g c = record {
  program = c.in-Ok.program;
  has = c.in-Ok.ensures;
  there = place_there c.args.points.now c.in-Some.node c.args.at c.in-Some.ensures.found;
  reads = c.in-Err-read_row.ensures;
}

pub answer_text-requires-clause-node : goal.answer_text-requires-clause-node
answer_text-requires-clause-node g c =
    node_small c.args.points.now c.args.tracked.now.names c.in-Ok.program c.in-Some.node c.args.at c.in-Ok.ensures.lifted c.in-Some.ensures.found

pub answer_text-requires-clause-row : goal.answer_text-requires-clause-row
answer_text-requires-clause-row g c =
    let code = some_code c.args.points.now.points c.in-Some.node (λ d. d.point ≡ c.args.at) c.in-Some.ensures.found in
    let row = c.in-Ok-read_row.ensures.told.1 in
    c.seen_rows_are_visible.ensures Wide c.args.points.now c.args.tracked.now.names c.in-Ok.program c.in-Some.node code.0 c.in-Ok-read_row.asked
    c.known.ensures c.in-Ok.ensures.lifted code.1 row.is_row
    (λ k below other. subst (λ (p : Point). IsSeenAt c.args.tracked.now.names p.proc_entry k) (sym code.2) (row.seen k below other))
