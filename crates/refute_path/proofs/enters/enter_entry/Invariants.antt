use Rattle.refute_path.specs.EntryArenas.{Admits, IsEnteringFrom}
use Rattle.refute_path.proofs.enters.enter_entry.Given as goal

abbrev pub invariant-loop-level : goal.invariant-loop-level
invariant-loop-level g l = Admits l.program l.items l.fn.entries l.entries l.fn.bases.items l.bases.items (IsEnteringFrom l.program l.items l.fn.entries l.outer l.level)
