use Rattle.std.proofs.Common.{◌≡◌, ◌++◌, drop, map}
use Rattle.entry_tables.specs.declared.rows.Told.{Told}
use Rattle.abi_routines.specs.declared.finding.Routine.{Routine}
use Rattle.abi_routines.specs.Findings.{AreRoutines}
use Rattle.abi_routines.proofs.findings.each.Given as goal

abbrev pub invariant-loop-told : goal.invariant-loop-told
invariant-loop-told l =
    AreRoutines l.image l.rows l.ends l.ending l.registers l.all
    × (map (λ (r : Routine). r.procedure) l.all ++ map (λ (k : Told). k.procedure) (drop l.told-index l.rows.procedures)
    ≡ map (λ (k : Told). k.procedure) l.rows.procedures)
