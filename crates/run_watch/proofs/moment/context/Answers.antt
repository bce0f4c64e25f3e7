use Rattle.std.proofs.Common.{List, sym, subst}
use Rattle.report_text.specs.Reports.{Ascend}
use Rattle.report_text.specs.declared.points.PointRows.{PointRows}
use Rattle.run_watch.proofs.moment.context.Goals as goal

pub told_near-told-requires : goal.told_near-told-requires
told_near-told-requires c = subst (λ (told : List PointRows). ∥ Ascend told ∥₁) (sym c.as_slice.ensures) c.args.report.now.ascending
