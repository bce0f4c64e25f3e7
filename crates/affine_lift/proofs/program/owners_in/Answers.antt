use Rattle.std.proofs.Common.{◌∙◌, ℕ, List, ◌++◌, [], ◌∷◌, map, take, ap, sym}
use Rattle.flow_points.specs.PointLists.{entries_of}
use Rattle.affine_lift.specs.Lifting.{number_of}
use Rattle.affine_lift.proofs.Nodes.{entries_more}
use Rattle.affine_lift.proofs.program.owners_in.Goals as goal

pub loop-i-preserved : goal.loop-i-preserved
loop-i-preserved c =
    c.in_ok-push.ensures.ok
    ∙ ap (λ (ns : List ℕ). ns ++ c.number_of.result ∷ []) c.loop-i.invariant
    ∙ ap (λ (n : ℕ). map (number_of c.args.points.now) (take c.loop-i.i (entries_of c.args.points.now.points)) ++ n ∷ []) c.number_of.ensures.number
    ∙ sym (entries_more c.args.points.now c.loop-i.i c.point.result (number_of c.args.points.now) c.point.ensures)
