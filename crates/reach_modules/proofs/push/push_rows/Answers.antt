use Rattle.std.proofs.Common.{◌∙◌, ◌+◌, subst}
use Rattle.std.proofs.lemmas.List.{take_all}
use Rattle.affine_prog.specs.Spans.{IsStateAt}
use Rattle.row_engine.specs.Turns.{NoJoins, Pushes}
use Rattle.row_engine.proofs.Members.{taken_in, now_taken}
use Rattle.row_engine.proofs.Pushing.{grown_none, grown_all, grown_then, grown_fails, pushes_none, pushes_more}
use Rattle.reach_modules.specs.Turns.{MakesOf}
use Rattle.reach_modules.proofs.Sounding.{states_are_rows}
use Rattle.reach_modules.proofs.push.push_rows.Goals as goal

pub loop-row-init : goal.loop-row-init
loop-row-init g c = grown_none 17 (IsStateAt c.args.program.now) c.args.nodes.now c.args.steps.now (pushes_none 17 (MakesOf c.args.program.now) NoJoins c.args.nodes.now c.args.node)

pub push_row-requires-clause-nodes : goal.push_row-requires-clause-nodes
push_row-requires-clause-nodes g c = c.loop-row.invariant.grows.nodes ∙ c.requires.is.nodes

pub push_row-requires-clause-own : goal.push_row-requires-clause-own
push_row-requires-clause-own g c =
    c.requires.rows c.row-item.result
    (taken_in c.args.rows.now (c.loop-row.row-index + 1) c.row-item.result (now_taken c.args.rows.now c.loop-row.row-index c.row-item.result c.loop-row-test.true c.row-item.is))

pub returns-in_err-push_row : goal.returns-in_err-push_row
returns-in_err-push_row g c =
    grown_fails (states_are_rows c.args.program.now c.requires.ready.formed) c.requires.is.leading c.loop-row.invariant c.push_row.ensures c.from_residual.result c.from_residual.ensures.0

pub loop-row-preserved : goal.loop-row-preserved
loop-row-preserved g c =
    grown_then (states_are_rows c.args.program.now c.requires.ready.formed) c.requires.is.leading c.loop-row.invariant c.in_ok-push_row.ensures
    (pushes_more 17 (MakesOf c.args.program.now) NoJoins c.args.rows.now c.loop-row.row-index c.row-item.result c.args.node c.args.nodes.now c.loop-row.nodes c.push_row.new.nodes
    c.loop-row-test.true c.row-item.is c.loop-row.invariant.grows.grown c.in_ok-push_row.ensures.grows.grown)

pub returns : goal.returns
returns g c =
    grown_all (subst (Pushes 17 (MakesOf c.args.program.now) NoJoins c.args.nodes.now c.loop-row.nodes c.args.node) (take_all c.loop-row.row-index c.args.rows.now c.loop-row-test.false)) c.loop-row.invariant
