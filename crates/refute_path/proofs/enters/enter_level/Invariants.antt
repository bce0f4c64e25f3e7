use Rattle.refute_path.specs.EntryArenas.{Admits, IsEnteringAt}
use Rattle.refute_path.proofs.enters.enter_level.Given as goal

abbrev pub invariant-loop-e : goal.invariant-loop-e
invariant-loop-e g l = Admits l.program l.items l.fn.entries l.entries l.fn.bases.items l.bases.items (IsEnteringAt l.program l.items l.fn.entries l.outer l.level l.e)
