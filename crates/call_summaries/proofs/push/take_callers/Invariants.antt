use Rattle.std.proofs.Common.{take}
use Rattle.row_engine.proofs.InTurn.{TakenSoFar}
use Rattle.call_summaries.specs.Offers.{Returned}
use Rattle.call_summaries.proofs.push.take_callers.Given as goal

abbrev pub invariant-loop-caller : goal.invariant-loop-caller
invariant-loop-caller g l =
    TakenSoFar 289 (Returned l.before l.extended l.to l.callers) (Returned l.before l.extended l.to (take l.caller-index l.callers)) l.fn.nodes l.nodes l.fn.steps l.steps
