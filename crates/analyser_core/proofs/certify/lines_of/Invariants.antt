-- The lines of the names so far.
use Rattle.analyser_core.proofs.LinesRead.{AreBefore}
use Rattle.analyser_core.proofs.certify.lines_of.Given as goal

abbrev pub invariant-loop-i : goal.invariant-loop-i
invariant-loop-i l = AreBefore l.summary l.proc_entry l.names l.i l.lines
