use Rattle.std.proofs.Common.{take}
use Rattle.affine_prog.specs.Spans.{IsMapTo}
use Rattle.row_engine.specs.Turns.{Pushes}
use Rattle.row_engine.proofs.Pushing.{GrownSoFar}
use Rattle.call_summaries.specs.Pushes.{MakesOf, JoinsOf}
use Rattle.call_summaries.proofs.worklist.push_rows.Given as goal

abbrev pub invariant-loop-row : goal.invariant-loop-row
invariant-loop-row g l =
    GrownSoFar 289 (IsMapTo l.program) l.fn.nodes l.nodes l.fn.steps l.steps (Pushes 289 (MakesOf l.program) (JoinsOf l.program) l.fn.nodes l.nodes l.node (take l.row-index l.rows))
