use Rattle.std.proofs.Common.{ap, sym, subst, ◌∙◌}
use Rattle.std.proofs.lemmas.Result.{IfOk-weaker}
use Rattle.lead_basis.proofs.Laws.{basis_rows}
use Rattle.affine_prog.specs.Programs.{owner_of}
use Rattle.affine_prog.specs.Spans.{rows_at}
use Rattle.affine_prog.proofs.Lemmas.{step_placed}
use Rattle.merged_heads.specs.Merges.{assigns_of}
use Rattle.block_program.proofs.Lemmas.{step_read}
use Rattle.proof_verify.specs.Points.{IsHeadBasis, HasStatesAt}
use Rattle.proof_verify.proofs.Members.{are_row_lists}
use Rattle.proof_verify.proofs.Placing.{at_a_head, behind_a_node}
use Rattle.proof_verify.proofs.points.states_at.Goals as goal

pub push-requires-clause-positions : goal.push-requires-clause-positions
push-requires-clause-positions g c =
    let program = c.args.program.now in let e = c.index-as_slice-edge_into.result in
    let s = step_read program c.requires.formed c.args.blocks.now c.requires.blocks c.args.node c.edge_into.result c.as_slice.result.now e c.requires.node c.edge_into.ensures c.as_slice.ensures
    c.index-as_slice-edge_into.is in
    step_placed program c.requires.formed e.from c.args.node (assigns_of e.kind) s.contains

pub returns-in-Some : goal.returns-in-Some
returns-in-Some g c =
    let program = c.args.program.now in let blocks = c.args.blocks.now in let levels = c.args.levels.now in let entries = c.args.entries.now in let v = c.args.node in
    IfOk-weaker c.head_states.result (IsHeadBasis (rows_at levels c.in-Some.head) (rows_at entries (owner_of program v))) (HasStatesAt program blocks levels entries v)
    (λ basis h. at_a_head program c.requires.formed blocks c.requires.blocks levels entries (are_row_lists 289 levels c.requires.level_bases)
    (are_row_lists 17 entries c.requires.entry_bases) v c.in-Some.head c.requires.node (sym c.node_of.ensures ∙ c.in-Some.is) basis h)
    (let states = c.basis_at.ensures ∙ ap (rows_at entries) c.owner_of-owner.ensures.is in rw (c.basis_at-maps.ensures, states) at c.head_states.ensures)

pub returns-in_ok-pushed-in-None : goal.returns-in_ok-pushed-in-None
returns-in_ok-pushed-in-None g c =
    let program = c.args.program.now in let blocks = c.args.blocks.now in let levels = c.args.levels.now in let entries = c.args.entries.now in
    let v = c.args.node in let e = c.index-as_slice-edge_into.result in
    let s = step_read program c.requires.formed blocks c.requires.blocks v c.edge_into.result c.as_slice.result.now e c.requires.node c.edge_into.ensures c.as_slice.ensures
    c.index-as_slice-edge_into.is in
    let pushed = c.in_ok-pushed-in-None.pushed in
    behind_a_node program c.requires.formed blocks c.requires.blocks levels entries (are_row_lists 289 levels c.requires.level_bases) (are_row_lists 17 entries c.requires.entry_bases)
    v e s c.basis_at-before.result.now pushed (basis_rows 17 pushed c.known-in-None.ensures.basis)
    (subst (HasStatesAt program blocks levels entries e.from) (sym c.basis_at-before.ensures) (c.requires.kept.at e.from s.from_below)) c.in_ok-pushed-in-None.ensures.exact
