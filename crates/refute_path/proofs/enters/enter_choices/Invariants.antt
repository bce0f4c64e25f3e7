use Rattle.refute_path.specs.EntryArenas.{Admits, IsChosen}
use Rattle.refute_path.proofs.enters.enter_choices.Given as goal

abbrev pub invariant-loop-k : goal.invariant-loop-k
invariant-loop-k g l = Admits l.program l.items l.fn.entries l.entries l.fn.bases.items l.bases.items (IsChosen l.proc l.before l.inner l.k)
