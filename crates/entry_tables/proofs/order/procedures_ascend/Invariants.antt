use Rattle.std.proofs.Common.{◌≡◌, ℕ, suc, ◌-◌, ◌<◌, length, slice_get, Some}
use Rattle.entry_tables.specs.declared.rows.Told.{Told}
use Rattle.entry_tables.proofs.order.procedures_ascend.Given as goal

abbrev pub invariant-loop-i : goal.invariant-loop-i
invariant-loop-i l = (j : ℕ) (x y : Told) → j < l.i → slice_get l.procedures j ≡ Some x → slice_get l.procedures (suc j) ≡ Some y → x.procedure < y.procedure

abbrev pub decreases-loop-i : goal.decreases-loop-i
decreases-loop-i l = length l.procedures - l.i
