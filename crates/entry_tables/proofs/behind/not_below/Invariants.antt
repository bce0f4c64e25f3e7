use Rattle.std.proofs.Common.{◌≡◌, ◌++◌, drop}
use Rattle.entry_tables.specs.Tables.{not_below}
use Rattle.entry_tables.proofs.behind.not_below.Given as goal

abbrev pub invariant-loop-slot : goal.invariant-loop-slot
invariant-loop-slot l = l.after ++ not_below l.k (drop l.slot-index l.slots) ≡ not_below l.k l.slots
