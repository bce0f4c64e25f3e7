use Rattle.std.proofs.Common.{Contains, arith}
use Rattle.lead_basis.proofs.Laws.{turned}
use Rattle.affine_prog.specs.Spans.{IsStateAt}
use Rattle.analyser_core.proofs.PointsTold.{point_told, seen_there}
use Rattle.analyser_core.proofs.RelationsTold.{tells, are_rows}
use Rattle.analyser_core.proofs.tell.told_at.Goals as goal

pub state_at-requires-clause-node : goal.state_at-requires-clause-node
state_at-requires-clause-node c = let nodes = c.requires.lifted.nodes in omega (arith, nodes, c.requires.node)

pub returns-clause-told : goal.returns-clause-told
returns-clause-told c =
    let program = c.args.program.now in
    let u = c.args.node in
    let names = c.args.tracked.now.names in
    let states = c.args.states.now in
    let point = c.point-point in
    let state = c.in_ok-state.state in
    let same = turned 17 (Contains states) (IsStateAt program u) c.requires.states in
    let relates = c.in_ok-state.ensures states c.requires.states in
    let holds = c.relations_annihilate_states.ensures in
    let open_states = c.paths_keep_states.ensures.states in
    let basis = c.known-2.ensures.basis in
    let told = tells program u states c.requires.formed holds open_states same state basis relates in
    let seen = seen_there c.args.points.now names program u point.result c.visible_names_are_seen.ensures c.known.ensures c.requires.lifted point.ensures in
    let rows = are_rows program u states c.requires.formed holds open_states same names point.result.proc_entry seen state basis relates in
    point_told program c.args.points.now names u point.result state point.ensures told rows
