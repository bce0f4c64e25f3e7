use Rattle.std.proofs.Common.{◌≡◌, ◌++◌, drop, map}
use Rattle.entry_tables.specs.Settling.{table_of}
use Rattle.abi_routines.specs.Findings.{AreFindings, place_of, asked}
use Rattle.abi_routines.proofs.findings.own_findings.Given as goal

abbrev pub invariant-loop-r : goal.invariant-loop-r
invariant-loop-r l =
    AreFindings (table_of l.image l.rows) l.ends l.ending l.found × (map place_of l.found ++ asked l.p (drop l.r-index l.registers) ≡ asked l.p l.registers)
