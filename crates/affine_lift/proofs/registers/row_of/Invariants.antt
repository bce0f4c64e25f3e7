-- The factors of the registers so far, and the constant.
use Rattle.std.proofs.Common.{◌≡◌, ℕ, ◌<◌, ◌≤◌, get_or, slice_get, length}
use Rattle.std.specs.Option.{option_map_or}
use Rattle.affine_lift.specs.Values.{factor_of}
use Rattle.affine_lift.proofs.registers.row_of.Given as goal

abbrev pub invariant-loop-i : goal.invariant-loop-i
invariant-loop-i l = record {
  width : length l.row ≡ 17;
  factors : (k : ℕ) → k < l.i → get_or l.row k 0 ≡ option_map_or (factor_of l.first l.second) (slice_get l.names k) 0;
  zeros : (k : ℕ) → l.i ≤ k → k < 16 → get_or l.row k 0 ≡ 0;
  constant : get_or l.row 16 0 ≡ l.constant;
}
