use Rattle.std.proofs.Common.{ap, sym, ◌∙◌, set, if◌then◌else◌}
use Rattle.affine_prog.specs.Assignments.{constant}
use Rattle.proof_verify.proofs.Under.{zero_constant, one_constant}
use Rattle.proof_verify.proofs.matrices.chosen.Goals as goal

pub returns-then-one : goal.returns-then-one
returns-then-one c = c.with.ensures ∙ ap (λ x. set x 16 1) c.zero.ensures ∙ one_constant ∙ ap (λ b. constant (if b then 1 else 0)) (sym c.if-one.true)

pub returns-else-one : goal.returns-else-one
returns-else-one c = c.zero-else-one.ensures ∙ zero_constant ∙ ap (λ b. constant (if b then 1 else 0)) (sym c.if-one.false)
