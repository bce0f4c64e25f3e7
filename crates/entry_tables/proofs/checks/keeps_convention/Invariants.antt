use Rattle.std.proofs.Common.{◌≡◌, ℕ, ◌-◌, ◌<◌, length, get_or, true, false}
use Rattle.entry_tables.specs.Tables.{by_convention}
use Rattle.entry_tables.proofs.checks.keeps_convention.Given as goal

abbrev pub invariant-loop-r : goal.invariant-loop-r
invariant-loop-r l = (k : ℕ) → k < l.r → get_or l.keeps k false ≡ true → by_convention k ≡ true

abbrev pub decreases-loop-r : goal.decreases-loop-r
decreases-loop-r l = length l.keeps - l.r
