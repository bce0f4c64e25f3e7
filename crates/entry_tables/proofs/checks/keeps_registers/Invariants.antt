use Rattle.std.proofs.Common.{◌≡◌, ℕ, ◌-◌, ◌<◌, length, get_or, true, false}
use Rattle.entry_values.specs.Values.{unknown}
use Rattle.entry_values.specs.declared.values.Value.TheVariants.{Is}
use Rattle.entry_tables.proofs.checks.keeps_registers.Given as goal

abbrev pub invariant-loop-r : goal.invariant-loop-r
invariant-loop-r l = (k : ℕ) → k < l.r → get_or l.keeps k false ≡ true → get_or l.values k unknown ≡ Is k 0

abbrev pub decreases-loop-r : goal.decreases-loop-r
decreases-loop-r l = length l.keeps - l.r
