use Rattle.std.proofs.Common.{sym, subst, ◌∙◌}
use Rattle.proof_verify.proofs.Tried.{both_ways}
use Rattle.proof_verify.proofs.Members.{are_row_lists}
use Rattle.proof_verify.proofs.Placing.{claim_tried}
use Rattle.proof_verify.specs.Points.{HasStatesAt}
use Rattle.proof_verify.proofs.claims.claim_passes.Goals as goal

pub returns : goal.returns
returns c =
    let program = c.args.program.now in let blocks = c.args.blocks.now in let levels = c.args.levels.now in let entries = c.args.entries.now in let claim = c.args.claim.now in
    let rows = c.rows-rows.ensures ∙ c.basis_at.ensures in
    both_ways (rw c.as_slice.ensures at c.all_vanish.ensures)
    (claim_tried program c.requires.formed blocks levels entries (are_row_lists 289 levels c.requires.level_bases) (are_row_lists 17 entries c.requires.entry_bases)
    c.merged_nodes_follow.ensures.unique claim c.rows-rows.result.now (subst (HasStatesAt program blocks levels entries claim.node) (sym rows) (c.requires.states.at claim.node c.requires.node)))
