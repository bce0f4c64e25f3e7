use Rattle.std.proofs.Common.{drop}
use Rattle.entry_tables.specs.Tables.{EachOf}
use Rattle.entry_tables.specs.Settling.{HasPoint}
use Rattle.entry_tables.proofs.settled.each_has_point.Given as goal

abbrev pub invariant-loop-b : goal.invariant-loop-b
invariant-loop-b l = EachOf (drop l.b-index l.targets) (λ b. HasPoint l.rows.points l.p b l.u) → EachOf l.targets (λ b. HasPoint l.rows.points l.p b l.u)
