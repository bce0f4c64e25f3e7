use Rattle.std.proofs.Common.{◌≡◌, ℕ, ◌<◌, length, get_or}
use Rattle.entry_values.specs.Values.{unknown}
use Rattle.entry_tables.specs.Tables.{value_returned}
use Rattle.entry_tables.specs.Settling.{listed}
use Rattle.entry_tables.proofs.behind.values_returned.Given as goal

abbrev pub invariant-loop-r : goal.invariant-loop-r
invariant-loop-r l = (length l.values ≡ 32) × ((k : ℕ) → k < l.r → get_or l.values k unknown ≡ value_returned (listed l.keeps) l.s l.a l.next k)
