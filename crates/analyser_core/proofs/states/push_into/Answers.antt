use Rattle.std.proofs.Common.{Contains}
use Rattle.std.proofs.lemmas.Result.{IfOk-weaker}
use Rattle.row_modules.specs.Modules.{SameModule}
use Rattle.row_modules.proofs.Laws.{same_with}
use Rattle.lead_basis.proofs.Laws.{basis_rows}
use Rattle.affine_prog.specs.Spans.{IsStateAt}
use Rattle.affine_prog.proofs.Lemmas.{step_placed}
use Rattle.merged_heads.specs.Merges.{assigns_of}
use Rattle.merged_heads.specs.Pushes.{MakesOf}
use Rattle.merged_heads.proofs.Lemmas.{module_follows, places_few}
use Rattle.block_program.proofs.Lemmas.{is_table, step_read}
use Rattle.analyser_core.specs.States.{HasStates}
use Rattle.analyser_core.proofs.NodeStates.{both_read}
use Rattle.analyser_core.proofs.states.push_into.Goals as goal

pub push-requires-clause-positions : goal.push-requires-clause-positions
push-requires-clause-positions g c =
    let program = c.args.program.now in
    let e = c.index-as_slice-edge_into.result in
    let s = step_read program c.requires.formed c.args.blocks.now c.requires.blocks c.args.node c.edge_into.result c.as_slice.result.now e c.requires.node c.edge_into.ensures c.as_slice.ensures c.index-as_slice-edge_into.is in
    step_placed program c.requires.formed e.from c.args.node (assigns_of e.kind) s.contains

pub returns-clause-exact : goal.returns-clause-exact
returns-clause-exact g c =
    let program = c.args.program.now in
    let e = c.index-as_slice-edge_into.result in
    let before = c.states_at-before.result.now in
    let h = both_read program c.requires.formed c.args.blocks.now c.requires.blocks c.args.reached.now c.args.kept.now c.requires.reached c.args.node c.requires.node c.requires.kept
    c.edge_into.result c.as_slice.result.now e c.edge_into.ensures c.as_slice.ensures c.index-as_slice-edge_into.is c.index-kept-edge.result before c.index-kept-edge.is c.states_at-before.ensures in
    let follows = module_follows program c.args.blocks.now.merging c.requires.formed (is_table program c.requires.formed c.args.blocks.now c.requires.blocks) e.from c.args.node (assigns_of e.kind)
    c.requires.node h.step.parent before (basis_rows 17 before c.known.ensures.basis) h.known in
    IfOk-weaker c.push.result (λ states. SameModule 17 (Contains states) (MakesOf (assigns_of e.kind) before)) (HasStates program c.args.node)
    (λ states same. same_with 17 (Contains states) (MakesOf (assigns_of e.kind) before) (IsStateAt program c.args.node) same follows) c.push.ensures.exact

pub returns-clause-counts_no_more : goal.returns-clause-counts_no_more
returns-clause-counts_no_more g c =
    let e = c.index-as_slice-edge_into.result in
    let before = c.states_at-before.result.now in
    let h = both_read c.args.program.now c.requires.formed c.args.blocks.now c.requires.blocks c.args.reached.now c.args.kept.now c.requires.reached c.args.node c.requires.node c.requires.kept
    c.edge_into.result c.as_slice.result.now e c.edge_into.ensures c.as_slice.ensures c.index-as_slice-edge_into.is c.index-kept-edge.result before c.index-kept-edge.is c.states_at-before.ensures in
    places_few c.args.program.now c.args.blocks.now.merging c.requires.formed (is_table c.args.program.now c.requires.formed c.args.blocks.now c.requires.blocks) e.from c.args.node
    (assigns_of e.kind) c.requires.node h.step.parent before (basis_rows 17 before c.known.ensures.basis) h.known
    c.args.steps.now c.push.new.steps c.push.ensures.counts_no_more
