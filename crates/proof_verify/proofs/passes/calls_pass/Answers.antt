use Rattle.std.proofs.Common.{IsTrue, ap, ◌∙◌, ◌↔◌}
use Rattle.std.proofs.lemmas.Result.{IfOk-weaker}
use Rattle.affine_prog.specs.Programs.{exit_of, slots_of, owner_of}
use Rattle.affine_prog.specs.Spans.{rows_at}
use Rattle.proof_rules.specs.Rules.{rule_4}
use Rattle.proof_verify.specs.Tests.{CallsInto}
use Rattle.proof_verify.proofs.Tried.{both_ways}
use Rattle.proof_verify.proofs.Ruled.{calls_ruled, slots_apart}
use Rattle.proof_verify.proofs.passes.calls_pass.Goals as goal

pub calls_into-requires-clause-apart : goal.calls_into-requires-clause-apart
calls_into-requires-clause-apart c =
    rw c.slots_of-slots.ensures (slots_apart c.args.program.now c.owner_of.result c.requires.formed c.owner_of.ensures.proc)

pub returns : goal.returns
returns c =
    let small = c.args.program.now in let levels = c.args.levels.now in let u = c.args.from in let v = c.args.to in let q = c.args.callee in
    let slots = c.slots_of-slots.ensures ∙ ap (slots_of small) c.owner_of.ensures.is in
    let rows = c.rows-rows.ensures ∙ c.basis_at.ensures in
    let callees = c.rows-callees.ensures ∙ c.basis_at-2.ensures ∙ ap (rows_at levels) c.exit_of.ensures in
    IfOk-weaker c.calls_into.result
    (λ passes. IsTrue passes ↔ CallsInto small.registers (slots_of small (owner_of small u)) c.args.before.now (rows_at levels u) (rows_at levels (exit_of small q)) (rows_at levels v))
    (λ passes. IsTrue passes ↔ rule_4 small levels u v q c.args.before.now)
    (λ passes h. both_ways h (calls_ruled small levels u v q c.args.before.now))
    (rw (slots, rows, callees, c.basis_at-basis.ensures) at c.calls_into.ensures)
