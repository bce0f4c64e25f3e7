use Rattle.std.proofs.Common.{IsTrue, ◌↔◌}
use Rattle.std.proofs.lemmas.Result.{IfOk-weaker}
use Rattle.proof_rules.specs.Rules.{rule_5}
use Rattle.proof_verify.specs.Items.{entry_rule}
use Rattle.proof_verify.proofs.Ruled.{before_placed, entry_ruled}
use Rattle.proof_verify.proofs.passes.entry_passes.Goals as goal

pub enters_pass-requires-clause-placed : goal.enters_pass-requires-clause-placed
enters_pass-requires-clause-placed c =
    rw c.as_slice.ensures (before_placed c.args.program.now c.requires.formed c.args.edge.now c.requires.edge c.in-Call.callee c.in-Call.before c.in-Call.is)

pub returns-in-Call : goal.returns-in-Call
returns-in-Call c =
    let small = c.args.program.now in let levels = c.args.levels.now in let entries = c.args.entries.now in let e = c.args.edge.now in
    IfOk-weaker c.enters_pass.result (λ passes. IsTrue passes ↔ rule_5 small levels entries e.from c.in-Call.callee c.in-Call.before)
    (λ passes. IsTrue passes ↔ entry_rule small levels entries e)
    (λ passes h. entry_ruled small levels entries e passes c.in-Call.callee c.in-Call.before c.in-Call.is h) (rw c.as_slice.ensures at c.enters_pass.ensures)
