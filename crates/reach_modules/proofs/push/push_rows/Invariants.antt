use Rattle.std.proofs.Common.{take}
use Rattle.affine_prog.specs.Spans.{IsStateAt}
use Rattle.row_engine.specs.Turns.{NoJoins, Pushes}
use Rattle.row_engine.proofs.Pushing.{GrownSoFar}
use Rattle.reach_modules.specs.Turns.{MakesOf}
use Rattle.reach_modules.proofs.push.push_rows.Given as goal

abbrev pub invariant-loop-row : goal.invariant-loop-row
invariant-loop-row g l = GrownSoFar 17 (IsStateAt l.program) l.fn.nodes l.nodes l.fn.steps l.steps (Pushes 17 (MakesOf l.program) NoJoins l.fn.nodes l.nodes l.node (take l.row-index l.rows))
