use Rattle.std.proofs.Common.{◌≡◌, ◌⊎◌, ℕ, ◌-◌, ◌<◌, length, get_or}
use Rattle.entry_values.specs.Values.{unknown, IsAny}
use Rattle.entry_tables.proofs.less.values_agree.Given as goal

abbrev pub invariant-loop-r : goal.invariant-loop-r
invariant-loop-r l = (k : ℕ) → k < l.r → (get_or l.t k unknown ≡ get_or l.s k unknown) ⊎ IsAny (get_or l.t k unknown)

abbrev pub decreases-loop-r : goal.decreases-loop-r
decreases-loop-r l = length l.t - l.r
