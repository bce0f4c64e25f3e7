use Rattle.refute_path.specs.Arenas.{measure}
use Rattle.refute_path.proofs.Looped.{IsGoing}
use Rattle.refute_path.proofs.closing.place_all.Given as goal

abbrev pub invariant-loop-place : goal.invariant-loop-place
invariant-loop-place g l = IsGoing l.program l.items l.bases.items l.place

abbrev pub decreases-loop-place : goal.decreases-loop-place
decreases-loop-place g l = measure l.bases.items l.items l.place
