use Rattle.std.proofs.Common.{Contains, arith}
use Rattle.lead_basis.proofs.Laws.{turned}
use Rattle.row_modules.proofs.Laws.{constant_is_in}
use Rattle.affine_prog.specs.Programs.{owner_of, visible_in}
use Rattle.affine_prog.specs.Spans.{IsStateAt}
use Rattle.narrow_words.proofs.StatesTold.{narrow_tells, narrow_rows}
use Rattle.narrow_words.proofs.PointsSoFar.{narrow_point_told, narrow_seen_there}
use Rattle.narrow_words.proofs.points.narrow_point.Goals as goal

pub visible_at-requires-clause-node : goal.visible_at-requires-clause-node
visible_at-requires-clause-node c = let nodes = c.requires.lifted.nodes in omega (arith, nodes, c.requires.node)

pub narrow_relations-requires : goal.narrow_relations-requires
narrow_relations-requires c = record { constant = rw c.visible_at.ensures (constant_is_in (visible_in c.args.program.now (owner_of c.args.program.now c.args.node))) }

pub returns : goal.returns
returns c =
    let program = c.args.program.now in
    let u = c.args.node in
    let names = c.args.tracked.now.names in
    let states = c.args.states.now in
    let point = c.point-point in
    let state = c.in_ok-state.state in
    let same = turned 17 (Contains states) (IsStateAt program u) c.requires.states in
    let holds = c.relations_annihilate_states.ensures in
    let open_states = c.paths_keep_states.ensures.states in
    let basis = c.known-2.ensures.basis in
    let told = narrow_tells program u states c.requires.formed holds open_states same basis state c.in_ok-state.ensures.unreached
    (rw c.visible_at.ensures at c.in_ok-state.ensures.rows) in
    let seen = narrow_seen_there c.args.points.now names program u point.result c.known.ensures c.requires.lifted point.ensures in
    narrow_point_told program c.args.points.now names u point.result state point.ensures told
    (narrow_rows program u states c.requires.formed holds open_states same basis names point.result.proc_entry seen state told)
