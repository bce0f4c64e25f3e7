use Rattle.std.proofs.Common.{◌≡◌, ℕ, ◌-◌, ◌<◌, length, slice_get, Some}
use Rattle.entry_tables.specs.Settling.{IsClosedPoint}
use Rattle.entry_tables.specs.declared.rows.Point.{Point}
use Rattle.entry_tables.proofs.settled.are_closed.Given as goal

abbrev pub invariant-loop-i : goal.invariant-loop-i
invariant-loop-i l = (j : ℕ) (point : Point) → j < l.i → slice_get l.rows.points j ≡ Some point → IsClosedPoint l.image l.rows point

abbrev pub decreases-loop-i : goal.decreases-loop-i
decreases-loop-i l = length l.rows.points - l.i
