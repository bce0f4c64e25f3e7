use Rattle.std.proofs.Common.{◌≡◌, ℕ, ◌<◌, slice_index}
use Rattle.lead_basis.proofs.whole.is_on.Given as goal

abbrev pub invariant-loop-i : goal.invariant-loop-i
invariant-loop-i g l = (k : ℕ) → k < l.i → slice_index l.marks k ≡ 0 → slice_index l.row k ≡ 0
