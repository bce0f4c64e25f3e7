use Rattle.std.proofs.Common.{rules, ap, subst, sym, ◌∙◌}
use Rattle.row_engine.specs.States.{State}
use Rattle.row_engine.proofs.Closing.{ClosingSoFar, closing_none, popped_below, turn_state, turn_sound, turn_rows, turn_grows, turn_closes, turn_falls, closes_at_end, fails_early}
use Rattle.row_engine.proofs.turns.close.Goals as goal

pub loop-node-init : goal.loop-node-init
loop-node-init g c =
    closing_none g.row.N (g.M.Moves.count c.args.moves.now) (g.M.Moves.makes c.args.moves.now) (g.M.Moves.joins c.args.moves.now) (g.M.Moves.states c.args.moves.now) c.requires.rows
    c.args.nodes.now c.args.steps.now c.requires.is c.requires.sound c.requires.queued c.requires.marked

pub changed-requires : goal.changed-requires
changed-requires g c =
    let within = c.known.ensures.within in (
      search rules,
      (
        search rules,
        (popped_below g.row.N (g.M.Moves.count c.args.moves.now) (g.M.Moves.makes c.args.moves.now) (g.M.Moves.joins c.args.moves.now) (g.M.Moves.states c.args.moves.now) c.requires.rows
            c.args.nodes.now c.loop-node.nodes c.next.new.self c.in-Some.node c.args.steps.now c.loop-node.steps c.loop-node.invariant c.in-Some.ensures).1,
      ),
    )

pub push-requires : goal.push-requires
push-requires g c =
    let a = turn_state g.row.N (g.M.Moves.count c.args.moves.now) (g.M.Moves.makes c.args.moves.now) (g.M.Moves.joins c.args.moves.now) (g.M.Moves.states c.args.moves.now) c.requires.rows
    c.args.nodes.now c.loop-node.nodes c.next.new.self c.changed.new.self c.in-Some.node c.in_ok-rows.rows c.as_slice.result.now c.args.steps.now c.loop-node.steps c.loop-node.invariant c.in-Some.ensures
    c.in_ok-rows.ensures.ok c.as_slice.ensures in
    let b = turn_sound g.row.N (g.M.Moves.count c.args.moves.now) (g.M.Moves.makes c.args.moves.now) (g.M.Moves.joins c.args.moves.now) (g.M.Moves.states c.args.moves.now) c.requires.rows
    c.args.nodes.now c.loop-node.nodes c.next.new.self c.changed.new.self c.in-Some.node c.in_ok-rows.rows c.as_slice.result.now c.args.steps.now c.loop-node.steps c.loop-node.invariant c.in-Some.ensures
    c.in_ok-rows.ensures.ok c.as_slice.ensures in
    let d = turn_rows g.row.N (g.M.Moves.count c.args.moves.now) (g.M.Moves.makes c.args.moves.now) (g.M.Moves.joins c.args.moves.now) (g.M.Moves.states c.args.moves.now) c.requires.rows
    c.args.nodes.now c.loop-node.nodes c.next.new.self c.changed.new.self c.in-Some.node c.in_ok-rows.rows c.as_slice.result.now c.args.steps.now c.loop-node.steps c.loop-node.invariant c.in-Some.ensures
    c.in_ok-rows.ensures.ok c.as_slice.ensures in
    let e = (popped_below g.row.N (g.M.Moves.count c.args.moves.now) (g.M.Moves.makes c.args.moves.now) (g.M.Moves.joins c.args.moves.now) (g.M.Moves.states c.args.moves.now) c.requires.rows
    c.args.nodes.now c.loop-node.nodes c.next.new.self c.in-Some.node c.args.steps.now c.loop-node.steps c.loop-node.invariant c.in-Some.ensures).0 in
    let within = c.known.ensures.within in
    (search rules, (search rules, (c.requires.formed, (e, (a, (b, d))))))

pub returns-in_err-push : goal.returns-in_err-push
returns-in_err-push g c =
    turn_grows g.row.N (g.M.Moves.count c.args.moves.now) (g.M.Moves.makes c.args.moves.now) (g.M.Moves.joins c.args.moves.now) (g.M.Moves.states c.args.moves.now) c.requires.rows
    c.args.nodes.now c.loop-node.nodes c.next.new.self c.changed.new.self c.in-Some.node c.in_ok-rows.rows c.as_slice.result.now c.args.steps.now c.loop-node.steps c.loop-node.invariant c.in-Some.ensures
    c.in_ok-rows.ensures.ok c.as_slice.ensures c.push.new.nodes c.push.new.steps c.push.result c.push.ensures c.from_residual-in_err-push.result c.from_residual-in_err-push.ensures.0

pub loop-node-smaller : goal.loop-node-smaller
loop-node-smaller g c =
    turn_falls g.row.N (g.M.Moves.count c.args.moves.now) (g.M.Moves.makes c.args.moves.now) (g.M.Moves.joins c.args.moves.now) (g.M.Moves.states c.args.moves.now) c.requires.rows
    c.args.nodes.now c.loop-node.nodes c.next.new.self c.changed.new.self c.in-Some.node c.in_ok-rows.rows c.as_slice.result.now c.args.steps.now c.loop-node.steps c.loop-node.invariant c.in-Some.ensures
    c.in_ok-rows.ensures.ok c.as_slice.ensures c.push.new.nodes c.push.new.steps _ c.in_ok-push.ensures

pub loop-node-preserved : goal.loop-node-preserved
loop-node-preserved g c =
    turn_closes g.row.N (g.M.Moves.count c.args.moves.now) (g.M.Moves.makes c.args.moves.now) (g.M.Moves.joins c.args.moves.now) (g.M.Moves.states c.args.moves.now) c.requires.rows
    c.args.nodes.now c.loop-node.nodes c.next.new.self c.changed.new.self c.in-Some.node c.in_ok-rows.rows c.as_slice.result.now c.args.steps.now c.loop-node.steps c.loop-node.invariant c.in-Some.ensures
    c.in_ok-rows.ensures.ok c.as_slice.ensures c.push.new.nodes c.push.new.steps _ c.in_ok-push.ensures

pub returns : goal.returns
returns g c =
    closes_at_end g.row.N (g.M.Moves.count c.args.moves.now) (g.M.Moves.makes c.args.moves.now) (g.M.Moves.joins c.args.moves.now) (g.M.Moves.states c.args.moves.now) c.requires.rows _ c.args.nodes.now c.next.new.self c.args.steps.now c.loop-node.steps
    (ap (λ (s : State). s.queue) c.in_default.ensures.1 ∙ c.in_default.ensures.0)
    (subst (λ s. ClosingSoFar g.row.N (g.M.Moves.count c.args.moves.now) (g.M.Moves.makes c.args.moves.now) (g.M.Moves.joins c.args.moves.now) (g.M.Moves.states c.args.moves.now) c.args.nodes.now s c.args.steps.now c.loop-node.steps)
    (sym c.in_default.ensures.1) c.loop-node.invariant)

pub returns-in_err-rows : goal.returns-in_err-rows
returns-in_err-rows g c =
    fails_early g.row.N (g.M.Moves.count c.args.moves.now) (g.M.Moves.makes c.args.moves.now) (g.M.Moves.joins c.args.moves.now) (g.M.Moves.states c.args.moves.now) c.requires.rows
    c.args.nodes.now c.loop-node.nodes c.next.new.self c.changed.new.self c.in-Some.node c.args.steps.now c.loop-node.steps c.loop-node.invariant c.in-Some.ensures c.in_err-rows.ensures.err
    c.from_residual.result c.from_residual.ensures.0
