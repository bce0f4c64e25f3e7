use Rattle.std.proofs.Common.{◌≡◌, ℕ, ◌-◌, ◌<◌, length, slice_get, Some}
use Rattle.entry_values.specs.States.{start}
use Rattle.entry_tables.specs.Settling.{HasPoint}
use Rattle.entry_tables.specs.declared.rows.Told.{Told}
use Rattle.entry_tables.proofs.settled.have_entries.Given as goal

abbrev pub invariant-loop-i : goal.invariant-loop-i
invariant-loop-i l = (j : ℕ) (k : Told) → j < l.i → slice_get l.rows.procedures j ≡ Some k → HasPoint l.rows.points k.procedure k.procedure start

abbrev pub decreases-loop-i : goal.decreases-loop-i
decreases-loop-i l = length l.rows.procedures - l.i
