use Rattle.std.proofs.Common.{◌≡◌, ℕ, suc, ◌-◌, ◌<◌, length, slice_get, Some}
use Rattle.entry_tables.specs.declared.rows.Point.{Point}
use Rattle.entry_tables.specs.Settling.{IsBefore}
use Rattle.entry_tables.proofs.order.points_ascend.Given as goal

abbrev pub invariant-loop-i : goal.invariant-loop-i
invariant-loop-i l = (j : ℕ) (x y : Point) → j < l.i → slice_get l.points j ≡ Some x → slice_get l.points (suc j) ≡ Some y → IsBefore x y

abbrev pub decreases-loop-i : goal.decreases-loop-i
decreases-loop-i l = length l.points - l.i
