-- The points so far, each with what holds there, and the states that are kept.
use Rattle.analyser_core.specs.States.{AreKept}
use Rattle.analyser_core.proofs.Telling.{AreMadeBelow, AreToldBelow}
use Rattle.analyser_core.proofs.tell.told.Given as goal

abbrev pub invariant-loop-node : goal.invariant-loop-node
invariant-loop-node g l = record {
  made : AreMadeBelow l.program l.blocks l.fn.steps l.steps l.node;
  kept : AreKept l.program l.blocks.merging l.node l.kept.items;
  told : AreToldBelow l.program l.points l.tracked.names l.node l.told;
}
