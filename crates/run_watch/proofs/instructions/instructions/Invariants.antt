use Rattle.std.proofs.Common.{take}
use Rattle.run_watch.specs.Runs.{AreInstructionsOf}
use Rattle.run_watch.proofs.instructions.instructions.Given as goal

abbrev pub invariant-loop-i : goal.invariant-loop-i
invariant-loop-i l = AreInstructionsOf (take l.i l.points.points) l.code.items
