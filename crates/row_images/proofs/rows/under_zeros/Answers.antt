use Rattle.std.proofs.Common.{◌/◌, ◌∙◌, subst}
use Rattle.word_rows.specs.Rows.{IsRow}
use Rattle.row_images.proofs.Zeros.{made_nothing, made_affine, made_any, made_all}
use Rattle.row_images.proofs.rows.under_zeros.Goals.{in-Affine, in-Any}
use Rattle.row_images.proofs.rows.under_zeros.Goals as goal

pub loop-assign-init : goal.loop-assign-init
loop-assign-init g c = made_nothing (g.row.N / 17) c.args.assigns.now c.args.start (subst (λ n. IsRow n c.args.start) c.requires.whole c.known.ensures.row)

pub loop-assign-preserved : goal.loop-assign-preserved
loop-assign-preserved g c = elim c.match-assign.branch [
  | in-Affine w ↦ made_affine c.args.assigns.now c.loop-assign.assign-index c.assign-item.result c.loop-assign-test.true c.assign-item.is (g.row.N / 17) c.args.start c.loop-assign.made c.loop-assign.invariant
      w.in-Affine.i w.from.result w.in-Affine.row c.match-assign.made w.in-Affine.is w.from.ensures (w.made-is ∙ w.after_affine-made.ensures)
  | in-Any w ↦ made_any c.args.assigns.now c.loop-assign.assign-index c.assign-item.result c.loop-assign-test.true c.assign-item.is (g.row.N / 17) c.args.start c.loop-assign.made c.loop-assign.invariant
      w.in-Any.i w.from-in-Any.result w.zero.result c.match-assign.made w.in-Any.is w.from-in-Any.ensures w.zero.ensures (w.made-is ∙ w.after_affine-made-in-Any.ensures)
]

pub returns : goal.returns
returns g c = made_all (g.row.N / 17) c.args.assigns.now c.args.start c.loop-assign.made c.loop-assign.assign-index c.loop-assign-test.false c.loop-assign.invariant
