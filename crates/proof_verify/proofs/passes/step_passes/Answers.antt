use Rattle.std.proofs.Common.{IsTrue, ◌↔◌}
use Rattle.std.proofs.lemmas.Result.{IfOk-weaker}
use Rattle.proof_rules.specs.Rules.{rule_3}
use Rattle.proof_verify.specs.Items.{step_rule}
use Rattle.proof_verify.proofs.Ruled.{do_placed, step_ruled}
use Rattle.proof_verify.proofs.passes.step_passes.Goals as goal

pub steps_pass-requires-clause-placed : goal.steps_pass-requires-clause-placed
steps_pass-requires-clause-placed c =
    rw c.as_slice.ensures (do_placed c.args.program.now c.requires.formed c.args.edge.now c.requires.edge c.in-Do.assigns c.in-Do.is)

pub returns-in-Do : goal.returns-in-Do
returns-in-Do c =
    let small = c.args.program.now in let levels = c.args.levels.now in let e = c.args.edge.now in
    IfOk-weaker c.steps_pass.result (λ passes. IsTrue passes ↔ rule_3 small levels e.from e.to c.in-Do.assigns) (λ passes. IsTrue passes ↔ step_rule small levels e)
    (λ passes h. step_ruled small levels levels e passes c.in-Do.assigns c.in-Do.is h) (rw c.as_slice.ensures at c.steps_pass.ensures)
