use Rattle.std.proofs.Common.{◌≡◌, ℕ, ◌<◌, false, slice_index}
use Rattle.row_modules.specs.Positions.{has}
use Rattle.affine_prog.proofs.check.is_zero_outside.Given as goal

abbrev pub invariant-loop-k : goal.invariant-loop-k
invariant-loop-k l = (i : ℕ) → i < l.k → has l.set i ≡ false → slice_index l.row i ≡ 0
