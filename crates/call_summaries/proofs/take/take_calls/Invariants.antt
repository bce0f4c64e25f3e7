use Rattle.std.proofs.Common.{take}
use Rattle.row_engine.proofs.InTurn.{TakenSoFar}
use Rattle.call_summaries.specs.Offers.{Called}
use Rattle.call_summaries.proofs.take.take_calls.Given as goal

abbrev pub invariant-loop-callee : goal.invariant-loop-callee
invariant-loop-callee g l =
    TakenSoFar 289 (Called l.sets.0 l.sets.1 l.to l.callees l.images) (Called l.sets.0 l.sets.1 l.to (take l.callee-index l.callees) l.images) l.fn.nodes l.nodes l.fn.steps l.steps
