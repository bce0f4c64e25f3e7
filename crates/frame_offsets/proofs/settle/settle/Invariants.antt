use Rattle.std.proofs.Common.{◌+◌, ◌*◌, length}
use Rattle.frame_offsets.specs.Tables.{weight_of}
use Rattle.frame_offsets.specs.Searches.{IsUnderWay}
use Rattle.frame_offsets.proofs.settle.settle.Given as goal

abbrev pub invariant-loop-i : goal.invariant-loop-i
invariant-loop-i l = IsUnderWay l.points l.table l.changed.keys

abbrev pub decreases-loop-i : goal.decreases-loop-i
decreases-loop-i l = 2 * weight_of l.table + length l.changed.keys
