use Rattle.std.proofs.Common.{◌≡◌, drop}
use Rattle.entry_tables.specs.Settling.{guess_at}
use Rattle.entry_tables.proofs.lookups.guess_at.Given as goal

abbrev pub invariant-loop-guess : goal.invariant-loop-guess
invariant-loop-guess l = guess_at (drop l.guess-index l.guesses) l.a ≡ guess_at l.guesses l.a
