-- The text is none of the names so far.
use Rattle.std.proofs.Common.{take}
use Rattle.report_read.specs.Drafts.{IsRegisterOf}
use Rattle.report_read.proofs.steps.is_register_of.Given as goal

abbrev pub invariant-loop-name : goal.invariant-loop-name
invariant-loop-name l = IsRegisterOf (take l.name-index l.names) l.text → ⊥
