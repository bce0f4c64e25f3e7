use Rattle.std.proofs.Common.{◌≡◌, drop}
use Rattle.entry_tables.specs.Settling.{told_at}
use Rattle.entry_walks.proofs.places.told_at.Given as goal

abbrev pub invariant-loop-told : goal.invariant-loop-told
invariant-loop-told l = told_at (drop l.told-index l.procedures) l.q ≡ told_at l.procedures l.q
