use Rattle.std.proofs.Common.{ap, sym, ◌∙◌, subst}
use Rattle.word_rows.specs.Rows.{unit}
use Rattle.map_modules.specs.Matrices.{after_affine}
use Rattle.affine_prog.specs.Assignments.{unknown_count, constant}
use Rattle.proof_verify.proofs.Under.{MadeUnder, under_none, under_all, under_affine, under_any, next_unknown, unit_word}
use Rattle.proof_verify.proofs.matrices.matrix_under.Goals.{in-Affine, in-Any}
use Rattle.proof_verify.proofs.matrices.matrix_under.Goals as goal

pub loop-assign-init : goal.loop-assign-init
loop-assign-init c =
    let words = unit (unknown_count c.args.assigns.now) c.args.one in
    subst (λ m. MadeUnder c.args.assigns.now words m 0 0) (sym c.identity-made.ensures) (under_none c.args.assigns.now words)

pub loop-assign-preserved : goal.loop-assign-preserved
loop-assign-preserved c =
    let assigns = c.args.assigns.now in let one = c.args.one in let words = unit (unknown_count assigns) one in let i = c.loop-assign.assign-index in
    elim c.match-assign.branch [
      | in-Affine w ↦ rw w.seen-is (under_affine assigns words i c.assign-item.result c.loop-assign-test.true c.assign-item.is c.loop-assign.made c.loop-assign.seen c.loop-assign.invariant
          w.in-Affine.i w.in-Affine.row c.match-assign.made w.in-Affine.is (w.made-is ∙ w.after_affine-made.ensures ∙ ap (λ n. after_affine c.loop-assign.made n w.in-Affine.row) w.from.ensures))
      | in-Any w ↦ rw w.seen-is (under_any assigns words i c.assign-item.result c.loop-assign-test.true c.assign-item.is c.loop-assign.made c.loop-assign.seen c.loop-assign.invariant
          w.in-Any.i w.chosen.result c.match-assign.made w.in-Any.is
          (w.chosen.ensures ∙ ap constant (sym (unit_word (unknown_count assigns) one c.loop-assign.seen
          (next_unknown assigns words i c.assign-item.result c.loop-assign-test.true c.assign-item.is c.loop-assign.made c.loop-assign.seen c.loop-assign.invariant w.in-Any.i w.in-Any.is))))
          (w.made-is ∙ w.after_affine-made-in-Any.ensures ∙ ap (λ n. after_affine c.loop-assign.made n w.chosen.result) w.from-in-Any.ensures))
    ]

pub returns : goal.returns
returns c =
    under_all c.args.assigns.now (unit (unknown_count c.args.assigns.now) c.args.one) c.loop-assign.made c.loop-assign.assign-index c.loop-assign.seen
    c.loop-assign-test.false c.loop-assign.invariant
