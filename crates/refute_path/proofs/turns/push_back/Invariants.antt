use Rattle.refute_path.specs.Gains.{Gains, IsBack}
use Rattle.refute_path.proofs.turns.push_back.Given as goal

abbrev pub invariant-loop-j : goal.invariant-loop-j
invariant-loop-j g l = Gains l.program l.fn.items l.items l.fn.bases.items l.bases.items (IsBack l.program l.fn.items l.place l.j l.e)
