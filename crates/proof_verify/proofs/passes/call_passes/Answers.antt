use Rattle.std.proofs.Common.{IsTrue, ◌↔◌}
use Rattle.std.proofs.lemmas.Result.{IfOk-weaker}
use Rattle.proof_rules.specs.Rules.{rule_4}
use Rattle.proof_verify.specs.Items.{call_rule}
use Rattle.proof_verify.proofs.Ruled.{before_placed, call_ruled}
use Rattle.proof_verify.proofs.passes.call_passes.Goals as goal

pub calls_pass-requires-clause-placed : goal.calls_pass-requires-clause-placed
calls_pass-requires-clause-placed c =
    rw c.as_slice.ensures (before_placed c.args.program.now c.requires.formed c.args.edge.now c.requires.edge c.in-Call.callee c.in-Call.before c.in-Call.is)

pub returns-in-Call : goal.returns-in-Call
returns-in-Call c =
    let small = c.args.program.now in let levels = c.args.levels.now in let e = c.args.edge.now in
    IfOk-weaker c.calls_pass.result (λ passes. IsTrue passes ↔ rule_4 small levels e.from e.to c.in-Call.callee c.in-Call.before) (λ passes. IsTrue passes ↔ call_rule small levels e)
    (λ passes h. call_ruled small levels levels e passes c.in-Call.callee c.in-Call.before c.in-Call.is h) (rw c.as_slice.ensures at c.calls_pass.ensures)
