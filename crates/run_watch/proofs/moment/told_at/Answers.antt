use Rattle.std.proofs.Common.{◌∙◌}
use Rattle.std.proofs.Props.{props}
use Rattle.std.proofs.Math.Logic.{∥∥₁_elim}
use Rattle.run_watch.proofs.PointsTold.{told_there, told_nowhere}
use Rattle.run_watch.proofs.moment.told_at.Goals as goal

pub returns-in-Ok : goal.returns-in-Ok
returns-in-Ok c =
    ∥∥₁_elim c.requires (hlevel props) (λ up.
    c.at.ensures ∙ told_there c.args.told.now c.args.point c.in-Ok.i up c.in-Ok.ensures.within c.in-Ok.ensures.place)

pub returns-in-Err : goal.returns-in-Err
returns-in-Err c = ∥∥₁_elim c.requires (hlevel props) (λ up. told_nowhere c.args.told.now c.args.point c.in-Err.field-0 up c.in-Err.ensures.place)
