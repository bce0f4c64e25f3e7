use Rattle.refute_path.specs.EntryArenas.{entry_measure}
use Rattle.refute_path.proofs.Entered.{IsEnteringOn}
use Rattle.refute_path.proofs.enters.enter_all.Given as goal

abbrev pub invariant-loop-place : goal.invariant-loop-place
invariant-loop-place g l = IsEnteringOn l.program l.items l.entries l.bases.items l.place

abbrev pub decreases-loop-place : goal.decreases-loop-place
decreases-loop-place g l = entry_measure l.bases.items l.entries l.place
