use Rattle.std.proofs.Common.{◌∙◌}
use Rattle.row_engine.proofs.ByNode.{found}
use Rattle.row_engine.proofs.Pushing.{so_far, grown_both, grown_sound}
use Rattle.call_summaries.proofs.Soundness.{maps_are_rows}
use Rattle.call_summaries.proofs.Rows.{out_places, back_places, row_pushed}
use Rattle.call_summaries.proofs.worklist.push_row.Goals as goal

pub push_out-requires-clause-places : goal.push_out-requires-clause-places
push_out-requires-clause-places g c =
    let t = c.args.tables.now in let a = c.requires.tables.leave in let u = c.args.node in
    out_places c.args.program.now t.out.items a u c.args.row.now c.requires.own c.as_slice-out.result.now
    (found t.out.items u c.args.program.now.nodes c.index.result.now c.as_slice-out.result.now c.requires.node a.each c.index.ensures c.as_slice-out.ensures)

pub push_to_calls-requires-clause-places : goal.push_to_calls-requires-clause-places
push_to_calls-requires-clause-places g c =
    let t = c.args.tables.now in let a = c.requires.tables.return in let u = c.args.node in
    back_places c.args.program.now t.back.items a u c.args.row.now c.requires.own c.as_slice-back.result.now
    (found t.back.items u c.args.program.now.nodes c.index-2.result.now c.as_slice-back.result.now c.requires.node a.each c.index-2.ensures c.as_slice-back.ensures)

pub push_to_calls-requires-clause-nodes : goal.push_to_calls-requires-clause-nodes
push_to_calls-requires-clause-nodes g c = c.push_out.ensures.grows.nodes ∙ c.requires.nodes

pub push_to_calls-requires-clause-sound : goal.push_to_calls-requires-clause-sound
push_to_calls-requires-clause-sound g c =
    grown_sound (maps_are_rows c.args.program.now c.requires.formed) c.known.ensures.leading (so_far c.in_ok-push_out.ensures) c.requires.sound

pub returns : goal.returns
returns g c =
    let p = c.args.program.now in let t = c.args.tables.now in let u = c.args.node in let first = so_far c.in_ok-push_out.ensures in
    grown_both (maps_are_rows p c.requires.formed) c.known.ensures.leading first c.push_to_calls.ensures
    (row_pushed p t.prepared.items t.out.items t.back.items c.requires.tables u c.args.row.now c.args.nodes.now c.push_out.new.nodes c.push_to_calls.new.nodes first.grows.grown c.push_to_calls.ensures.grows.grown
    c.as_slice-out.result.now c.as_slice-back.result.now
    (found t.out.items u p.nodes c.index.result.now c.as_slice-out.result.now c.requires.node c.requires.tables.leave.each c.index.ensures c.as_slice-out.ensures)
    (found t.back.items u p.nodes c.index-2.result.now c.as_slice-back.result.now c.requires.node c.requires.tables.return.each c.index-2.ensures c.as_slice-back.ensures))
