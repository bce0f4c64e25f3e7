use Rattle.std.proofs.Common.{◌≡◌, ◌++◌, false, drop}
use Rattle.abi_text.specs.Findings.{also_names}
use Rattle.abi_text.proofs.findings.push_also.Given as goal

abbrev pub invariant-loop-routine : goal.invariant-loop-routine
invariant-loop-routine l =
    l.text.items ++ also_names l.symbols l.p l.r l.fault l.told (drop l.routine-index l.routines)
    ≡ l.initial.text.items ++ also_names l.symbols l.p l.r l.fault false l.routines
