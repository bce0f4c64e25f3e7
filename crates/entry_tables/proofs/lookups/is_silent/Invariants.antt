use Rattle.std.proofs.Common.{◌≡◌, drop}
use Rattle.entry_tables.specs.Settling.{is_silent}
use Rattle.entry_tables.proofs.lookups.is_silent.Given as goal

abbrev pub invariant-loop-call : goal.invariant-loop-call
invariant-loop-call l = is_silent (drop l.call-index l.silent) l.a ≡ is_silent l.silent l.a
