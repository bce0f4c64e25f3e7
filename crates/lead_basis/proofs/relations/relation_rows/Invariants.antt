use Rattle.std.proofs.Common.{◌≤◌, ◌-◌, ℕ, List}
use Rattle.lead_basis.specs.Mirrors.{Mirrors}
use Rattle.lead_basis.proofs.Duals.{Dual}
use Rattle.lead_basis.proofs.Pivots.{Passed}
use Rattle.lead_basis.proofs.relations.relation_rows.Given as goal

abbrev pub invariant-loop-position : goal.invariant-loop-position
invariant-loop-position l = record {
  within : l.position ≤ 17;
  passed : Passed l.mirrored (17 - l.position) l.at;
  done : (source : List (List ℕ)) → Mirrors l.visible source l.mirrored → Dual l.visible source l.mirrored l.position l.rows.items;
}
