use Rattle.std.proofs.Common.{◌∙◌}
use Rattle.proof_verify.proofs.passes.steps_pass.Goals as goal

pub returns : goal.returns
returns c = let rows = c.rows-rows.ensures ∙ c.basis_at.ensures in rw (rows, c.basis_at-2.ensures) at c.steps_into.ensures
