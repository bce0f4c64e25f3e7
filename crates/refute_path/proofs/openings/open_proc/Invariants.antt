use Rattle.refute_path.specs.Gains.{Gains, IsOpeningOf}
use Rattle.refute_path.proofs.openings.open_proc.Given as goal

abbrev pub invariant-loop-k : goal.invariant-loop-k
invariant-loop-k g l = Gains l.program l.fn.items l.items l.fn.bases.items l.bases.items (IsOpeningOf l.program l.proc l.k)
