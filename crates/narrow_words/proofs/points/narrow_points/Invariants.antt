-- The points so far, each with what holds there, and the states that are kept.
use Rattle.analyser_core.specs.States.{AreKept}
use Rattle.narrow_words.proofs.PointsSoFar.{AreToldBelow}
use Rattle.narrow_words.proofs.points.narrow_points.Given as goal

abbrev pub invariant-loop-node : goal.invariant-loop-node
invariant-loop-node g l = record {
  kept : AreKept l.program l.blocks.merging l.node l.kept.items;
  told : AreToldBelow l.program l.points l.tracked.names l.node l.told;
}
