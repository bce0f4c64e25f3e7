use Rattle.std.proofs.Common.{sym, ◌∙◌, subst}
use Rattle.std.proofs.lemmas.Bool.{false≢true}
use Rattle.report_places.specs.Strangers.{IsStrangePoint}
use Rattle.report_places.proofs.FirstOnes.{first_later}
use Rattle.report_places.proofs.strangers.strange_point.Goals as goal

pub loop-point-preserved : goal.loop-point-preserved
loop-point-preserved c = λ found later.
    c.loop-point.invariant found
    (first_later (IsStrangePoint c.args.points.now.points) _ c.args.told.now c.loop-point.point-index c.point-item.result found c.loop-point-test.true
    (λ h. false≢true (sym c.if-is_strange_point.false
    ∙ c.is_strange_point.ensures.1 (subst (λ p. IsStrangePoint c.args.points.now.points p) (sym c.point-item.is) h))) later)
