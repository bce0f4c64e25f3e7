use Rattle.std.proofs.Common.{◌≡◌, ◌+◌, ap, sym, subst, ◌∙◌, arith}
use Rattle.affine_prog.specs.Assignments.{unknown_count, matrix_of}
use Rattle.word_rows.specs.Rows.{unit}
use Rattle.proof_verify.specs.Tests.{AreMatricesBelow}
use Rattle.proof_verify.proofs.Under.{matrices_more, matrices_all}
use Rattle.proof_verify.proofs.matrices.matrices_of.Goals as goal

pub loop-one-preserved : goal.loop-one-preserved
loop-one-preserved c =
    subst (AreMatricesBelow c.args.assigns.now (c.loop-one.one + 1)) (sym c.in_ok-push.ensures)
    (matrices_more c.args.assigns.now c.loop-one.one c.loop-one.matrices c.matrix_under.result c.loop-one.invariant c.matrix_under.ensures)

pub returns : goal.returns
returns c =
    let assigns = c.args.assigns.now in let n = unknown_count assigns in
    let at_end : c.loop-one.one ≡ n = omega (arith, c.loop-one.auto.one-end, c.loop-one-test.false, c.unknown_count-one-end.ensures) in
    let made = c.matrix_under-2.ensures ∙ ap (λ k. matrix_of assigns (unit n k)) c.unknown_count.ensures in
    matrices_all assigns c.push-2.new.matrices
    (subst (AreMatricesBelow assigns (n + 1)) (sym c.in_ok-push-2.ensures)
    (matrices_more assigns n c.loop-one.matrices c.matrix_under-2.result (subst (λ k. AreMatricesBelow assigns k c.loop-one.matrices) at_end c.loop-one.invariant) made))
