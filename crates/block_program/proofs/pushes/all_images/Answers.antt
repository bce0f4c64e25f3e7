use Rattle.row_images.specs.States.{IsMatrixOf}
use Rattle.row_images.proofs.Laws.{images_span}
use Rattle.merged_heads.proofs.Lemmas.{made_of_none, made_of_more}
use Rattle.block_program.proofs.pushes.all_images.Goals as goal

pub loop-row-init : goal.loop-row-init
loop-row-init c = rw c.new-all.ensures (made_of_none (IsMatrixOf c.args.assigns.now))

pub loop-row-preserved : goal.loop-row-preserved
loop-row-preserved c =
    rw c.in-Ok.ensures
    (made_of_more (IsMatrixOf c.args.assigns.now) c.args.rows.now c.loop-row.row-index c.row-item.result c.loop-row.all c.in_ok-more.more c.loop-row-test.true c.row-item.is
    c.loop-row.invariant (images_span c.args.assigns.now c.row-item.result c.in_ok-more.more c.in_ok-more.ensures.exact))
