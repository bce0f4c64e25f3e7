use Rattle.std.proofs.Common.{◌<◌, length}
use Rattle.entry_search.proofs.index.place.Given as goal

abbrev pub invariant-loop-left : goal.invariant-loop-left
invariant-loop-left l = l.at < length l.index

abbrev pub decreases-loop-left : goal.decreases-loop-left
decreases-loop-left l = l.left
