use Rattle.std.proofs.Common.{◌∙◌, ◌+◌, subst}
use Rattle.std.proofs.lemmas.List.{take_all}
use Rattle.affine_prog.specs.Spans.{IsMapTo}
use Rattle.row_engine.specs.Turns.{Pushes}
use Rattle.row_engine.proofs.Members.{taken_in, now_taken}
use Rattle.row_engine.proofs.Pushing.{grown_none, grown_all, grown_then, grown_fails, grown_sound, pushes_none, pushes_more}
use Rattle.call_summaries.specs.Pushes.{MakesOf, JoinsOf}
use Rattle.call_summaries.proofs.Soundness.{maps_are_rows}
use Rattle.call_summaries.proofs.worklist.push_rows.Goals as goal

pub loop-row-init : goal.loop-row-init
loop-row-init g c =
    let p = c.args.program.now in grown_none 289 (IsMapTo p) c.args.nodes.now c.args.steps.now (pushes_none 289 (MakesOf p) (JoinsOf p) c.args.nodes.now c.args.node)

pub push_row-requires-clause-nodes : goal.push_row-requires-clause-nodes
push_row-requires-clause-nodes g c = c.loop-row.invariant.grows.nodes ∙ c.requires.is.nodes

pub push_row-requires-clause-sound : goal.push_row-requires-clause-sound
push_row-requires-clause-sound g c = grown_sound (maps_are_rows c.args.program.now c.requires.formed) c.requires.is.leading c.loop-row.invariant c.requires.sound

pub push_row-requires-clause-own : goal.push_row-requires-clause-own
push_row-requires-clause-own g c =
    c.requires.rows c.row-item.result
    (taken_in c.args.rows.now (c.loop-row.row-index + 1) c.row-item.result (now_taken c.args.rows.now c.loop-row.row-index c.row-item.result c.loop-row-test.true c.row-item.is))

pub returns-in_err-push_row : goal.returns-in_err-push_row
returns-in_err-push_row g c =
    grown_fails (maps_are_rows c.args.program.now c.requires.formed) c.requires.is.leading c.loop-row.invariant c.push_row.ensures c.from_residual.result c.from_residual.ensures.0

pub loop-row-preserved : goal.loop-row-preserved
loop-row-preserved g c =
    let p = c.args.program.now in
    grown_then (maps_are_rows p c.requires.formed) c.requires.is.leading c.loop-row.invariant c.in_ok-push_row.ensures
    (pushes_more 289 (MakesOf p) (JoinsOf p) c.args.rows.now c.loop-row.row-index c.row-item.result c.args.node c.args.nodes.now c.loop-row.nodes c.push_row.new.nodes
    c.loop-row-test.true c.row-item.is c.loop-row.invariant.grows.grown c.in_ok-push_row.ensures.grows.grown)

pub returns : goal.returns
returns g c =
    let p = c.args.program.now in
    grown_all (subst (Pushes 289 (MakesOf p) (JoinsOf p) c.args.nodes.now c.loop-row.nodes c.args.node) (take_all c.loop-row.row-index c.args.rows.now c.loop-row-test.false)) c.loop-row.invariant
