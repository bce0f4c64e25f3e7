use Rattle.refute_path.specs.Gains.{Gains, IsOpeningBelow}
use Rattle.refute_path.proofs.openings.open_all.Given as goal

abbrev pub invariant-loop-p : goal.invariant-loop-p
invariant-loop-p g l = Gains l.program l.fn.items l.items l.fn.bases.items l.bases.items (IsOpeningBelow l.program l.p)
