use Rattle.std.proofs.Common.{drop, map}
use Rattle.std.specs.Prelude.{Contains}
use Rattle.entry_tables.specs.declared.rows.Told.{Told}
use Rattle.entry_tables.specs.Tables.{EachOf}
use Rattle.entry_search.proofs.search.have_roots.Given as goal

abbrev pub invariant-loop-root : goal.invariant-loop-root
invariant-loop-root l =
    let has = Contains (map (λ (k : Told). k.procedure) l.procedures) in
    EachOf (drop l.root-index l.roots) has → EachOf l.roots has
