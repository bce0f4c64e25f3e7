use Rattle.std.proofs.Common.{map, subst}
use Rattle.std.specs.Prelude.{Contains}
use Rattle.entry_tables.specs.declared.rows.Told.{Told}
use Rattle.entry_tables.proofs.Finding.{mapped}
use Rattle.entry_tables.proofs.lookups.has_procedure.Goals as goal

pub returns-in-Some : goal.returns-in-Some
returns-in-Some c = λ yes.
    let has = c.in-Some.ensures in
    subst (Contains (map (λ (k : Told). k.procedure) c.args.procedures.now)) has.procedure (mapped (λ (k : Told). k.procedure) c.args.procedures.now has.i _ has.is)
