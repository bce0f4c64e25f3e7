use Rattle.std.proofs.Common.{◌≡◌, Some, arith, get_or, slice_get}
use Rattle.std.proofs.lemmas.Option.{slice_get-get_or}
use Rattle.std.proofs.lemmas.Result.{IfOk-weaker}
use Rattle.row_modules.proofs.Laws.{constant_is_in}
use Rattle.affine_prog.specs.Programs.{owner_of, visible_in}
use Rattle.analyser_core.specs.Told.{told_positions, Relates, RelatesAt}
use Rattle.block_program.proofs.Lemmas.{is_table}
use Rattle.analyser_core.proofs.Passed.{passed_related, relates_at}
use Rattle.analyser_core.proofs.point_state.state_at.Goals as goal

pub state_of-requires : goal.state_of-requires
state_of-requires c = rw c.visible_at.ensures (constant_is_in (visible_in c.args.program.now (owner_of c.args.program.now c.args.node)))

pub returns-in-Some : goal.returns-in-Some
returns-in-Some c =
    let program = c.args.program.now in
    let told = c.args.told.now in
    let from = c.in-Some.from in
    let passes = c.in-Some.ensures in
    let point = get_or told from c.index-told-from.result in
    let at : slice_get told from ≡ Some point = slice_get-get_or told from c.index-told-from.result (omega (arith, passes.below, c.requires.count)) in
    let related = passed_related program c.requires.formed c.args.blocks.now.merging (is_table program c.requires.formed c.args.blocks.now c.requires.blocks) from c.args.node
    c.requires.node passes point.state (c.requires.told from point at) in
    IfOk-weaker c.copy_of.result (λ copy. copy ≡ point.state) _ (λ copy same. rw same related) c.copy_of.ensures

pub returns-in-None : goal.returns-in-None
returns-in-None c =
    let program = c.args.program.now in
    let node = c.args.node in
    let states = c.args.states.now in
    IfOk-weaker c.state_of.result (Relates (told_positions program node) states) (RelatesAt program node)
    (λ state is. relates_at program node states c.requires.states state is) (rw c.visible_at.ensures at c.state_of.ensures)
