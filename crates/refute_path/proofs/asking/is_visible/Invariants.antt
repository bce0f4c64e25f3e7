use Rattle.refute_path.proofs.Asked.{IsZeroBelow}
use Rattle.refute_path.proofs.asking.is_visible.Given as goal

abbrev pub invariant-loop-k : goal.invariant-loop-k
invariant-loop-k l = IsZeroBelow l.set l.row l.k
