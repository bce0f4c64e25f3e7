use Rattle.call_summaries.specs.Openings.{OpeningsFirst}
use Rattle.call_summaries.proofs.openings.openings.Given as goal

abbrev pub invariant-loop-i : goal.invariant-loop-i
invariant-loop-i l = OpeningsFirst l.registers l.slots l.i l.rows
