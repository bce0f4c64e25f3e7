-- The lines of the procedures so far.
use Rattle.analyser_core.proofs.LinesRead.{AreOfFirst}
use Rattle.analyser_core.proofs.certify.certify.Given as goal

abbrev pub invariant-loop-entry : goal.invariant-loop-entry
invariant-loop-entry l = AreOfFirst l.program l.points l.tracked.names l.procedures l.entry-index l.certs
