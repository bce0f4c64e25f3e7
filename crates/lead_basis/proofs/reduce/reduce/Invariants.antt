use Rattle.std.proofs.Common.{◌≡◌, ◌≤◌, length, take, drop}
use Rattle.lead_basis.specs.Laws.{Reduces}
use Rattle.lead_basis.proofs.reduce.reduce.Given as goal

abbrev pub invariant-loop-i : goal.invariant-loop-i
invariant-loop-i g l = record {
  within : l.i ≤ length l.rows.items;
  front : take l.i l.rows.items ≡ take l.i l.fn.rows.items;
  done : Reduces g.row.N (drop l.i l.fn.rows.items) (drop l.i l.rows.items);
}
