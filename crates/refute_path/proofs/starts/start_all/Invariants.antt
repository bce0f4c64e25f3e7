use Rattle.refute_path.specs.EntryArenas.{Admits, IsStartBelow}
use Rattle.refute_path.proofs.starts.start_all.Given as goal

abbrev pub invariant-loop-k : goal.invariant-loop-k
invariant-loop-k g l = Admits l.program l.items l.fn.entries l.entries l.fn.bases.items l.bases.items (IsStartBelow l.program l.k)
