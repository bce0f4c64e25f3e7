use Rattle.std.proofs.Common.{take}
use Rattle.affine_prog.specs.Spans.{IsMapTo}
use Rattle.row_engine.proofs.Pushing.{GrownSoFar}
use Rattle.call_summaries.specs.Pushes.{Along, Forward}
use Rattle.call_summaries.proofs.worklist.push_out.Given as goal

abbrev pub invariant-loop-place : goal.invariant-loop-place
invariant-loop-place g l =
    GrownSoFar 289 (IsMapTo l.program) l.fn.nodes l.nodes l.fn.steps l.steps (Along l.program (λ e. Forward l.program e l.fn.nodes l.nodes l.row) (take l.place-index l.places))
