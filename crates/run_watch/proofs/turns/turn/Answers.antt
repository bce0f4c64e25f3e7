use Rattle.std.proofs.Common.{refl, subst, Some}
use Rattle.run_watch.specs.Runs.{Scene, Spot, scene_of, off}
use Rattle.run_watch.specs.Turns.{Tried}
use Rattle.run_watch.specs.declared.outcomes.Outcome.{Outcome}
use Rattle.run_watch.proofs.Turning.{turned_on, turned_off, on_true, on_false}
use Rattle.run_watch.proofs.turns.turn.Goals as goal

pub returns-in-Stopped-clause-turned : goal.returns-in-Stopped-clause-turned
returns-in-Stopped-clause-turned g c =
    let scene : Scene = scene_of c.args.points.now c.args.offsets.now c.args.report.now c.args.code.now in
    let a : Spot = record { machine = c.args.machine.now; stack = c.args.stack.now } in
    let tried = c.in_ok-stop.ensures in (
      tried.0,
      off (Some c.in-Stopped.stop) c.in-Stopped.stop refl
          (subst (λ (o : Outcome). Tried scene c.args.limit a c.tried.new.machine tried.0 o) c.in-Stopped.is tried.1),
      tried.2,
    )

pub returns-in-Ok-true-clause-turned : goal.returns-in-Ok-true-clause-turned
returns-in-Ok-true-clause-turned g c =
    let scene : Scene = scene_of c.args.points.now c.args.offsets.now c.args.report.now c.args.code.now in
    let a : Spot = record { machine = c.args.machine.now; stack = c.args.stack.now } in
    let tried = c.in_ok-stop.ensures in
    let made = subst (λ (o : Outcome). Tried scene c.args.limit a c.tried.new.machine tried.0 o) c.in-Made.is tried.1 in (
      tried.0,
      turned_on scene c.args.limit a c.tried.new.machine c.turn.new.stack c.in-Made.at c.in-Made.flow c.in-Made.rec tried.0 made
          (on_true c.in-Ok-true.field-0 _ _ c.in-Ok-true.field-0-test c.in-Ok-true.ensures.turned),
      tried.2,
    )

pub returns-in-Ok-false-clause-turned : goal.returns-in-Ok-false-clause-turned
returns-in-Ok-false-clause-turned g c =
    let scene : Scene = scene_of c.args.points.now c.args.offsets.now c.args.report.now c.args.code.now in
    let a : Spot = record { machine = c.args.machine.now; stack = c.args.stack.now } in
    let tried = c.in_ok-stop.ensures in
    let made = subst (λ (o : Outcome). Tried scene c.args.limit a c.tried.new.machine tried.0 o) c.in-Made.is tried.1 in (
      tried.0,
      turned_off scene c.args.limit a c.tried.new.machine c.turn.new.stack c.in-Made.at c.in-Made.flow c.in-Made.rec tried.0 made
          (on_false c.in-Ok-false.field-0 _ _ c.in-Ok-false.field-0-test c.in-Ok-false.ensures.turned),
      tried.2,
    )
