use Rattle.std.proofs.Common.{ℕ, Option, drop}
use Rattle.report_places.specs.Strangers.{FirstIs, IsStrangeName, procedure_of}
use Rattle.report_places.proofs.strangers.strange_name.Given as goal

abbrev pub invariant-loop-name : goal.invariant-loop-name
invariant-loop-name l = (found : Option ℕ)
    → FirstIs (IsStrangeName l.procedures) procedure_of (drop l.name-index l.names) found
    → FirstIs (IsStrangeName l.procedures) procedure_of l.names found
