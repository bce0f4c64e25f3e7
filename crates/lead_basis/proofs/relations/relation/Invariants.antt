use Rattle.std.proofs.Common.{◌≤◌, length, drop}
use Rattle.lead_basis.specs.Relations.{IsRelation}
use Rattle.lead_basis.proofs.relations.relation.Given as goal

abbrev pub invariant-loop-i : goal.invariant-loop-i
invariant-loop-i l = record {
  within : l.i ≤ length l.basis;
  done : IsRelation 17 (drop l.i l.basis) l.position l.word l.row;
}
