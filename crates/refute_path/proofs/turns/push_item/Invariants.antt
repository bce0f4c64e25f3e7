use Rattle.refute_path.specs.Gains.{Gains, IsAlongBelow}
use Rattle.refute_path.proofs.turns.push_item.Given as goal

abbrev pub invariant-loop-e : goal.invariant-loop-e
invariant-loop-e g l = Gains l.program l.fn.items l.items l.fn.bases.items l.bases.items (IsAlongBelow l.program l.fn.items l.place l.e)
