use Rattle.std.proofs.Common.{ap, ◌∙◌}
use Rattle.affine_prog.specs.Spans.{rows_at}
use Rattle.proof_verify.proofs.passes.enters_pass.Goals as goal

pub returns : goal.returns
returns c =
    let rows = c.rows-rows.ensures ∙ c.basis_at.ensures in
    let states = c.rows-states.ensures ∙ c.basis_at-2.ensures ∙ ap (rows_at c.args.entries.now) c.owner_of.ensures.is in
    rw (rows, states, c.basis_at-3.ensures) at c.enters_into.ensures
