use Rattle.std.proofs.Common.{◌∙◌, sym, ◌≡◌, Some, slice_get, rules}
use Rattle.std.proofs.Props.{props}
use Rattle.std.proofs.Math.Logic.{∥∥₁_elim}
use Rattle.run_watch.specs.Runs.{point_of}
use Rattle.run_watch.proofs.PointsTold.{told_here}
use Rattle.run_watch.proofs.moment.told_near.Goals as goal

pub returns-in-Some : goal.returns-in-Some
returns-in-Some c =
    ∥∥₁_elim c.requires (hlevel props) (λ up.
    c.in-Some.ensures
    ∙ told_here c.args.told.now c.args.point c.args.number c.in-Some.here.now up (sym c.in-Some.ensures)
    (let e : point_of c.in-Some.here.now ≡ c.args.point = search rules in e))
