use Rattle.std.proofs.Common.{IfSome, subst}
use Rattle.run_watch.specs.Runs.{scene_of}
use Rattle.run_watch.specs.Quiet.{IsQuietStep}
use Rattle.run_watch.proofs.Silent.{quietly_none, quietly_more}
use Rattle.run_watch.proofs.quiet.go_quietly.Goals as goal

pub loop-at-init : goal.loop-at-init
loop-at-init c = quietly_none _ _ _ c.requires.within

pub loop-at-preserved : goal.loop-at-preserved
loop-at-preserved c =
    let is : IsQuietStep (scene_of c.args.points.now c.args.offsets.now c.args.report.now c.args.code.now) c.args.limit
    (record { machine = c.loop-at.machine; stack = c.args.stack.now }) (record { machine = c.step_quietly.new.machine; stack = c.args.stack.now }) =
    subst (λ o. IfSome o (λ at. IsQuietStep (scene_of c.args.points.now c.args.offsets.now c.args.report.now c.args.code.now) c.args.limit
    (record { machine = c.loop-at.machine; stack = c.args.stack.now }) (record { machine = c.step_quietly.new.machine; stack = c.args.stack.now })))
    c.in-Some.is c.in_ok-at.ensures.made in
    (quietly_more _ _ _ _ _ c.loop-at.invariant is).0
