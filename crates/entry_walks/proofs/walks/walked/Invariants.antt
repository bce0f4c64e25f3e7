use Rattle.std.proofs.Common.{◌≡◌, drop}
use Rattle.entry_tables.specs.Settling.{table_of}
use Rattle.entry_walks.specs.Walks.{walked, walk_of}
use Rattle.entry_walks.proofs.walks.walked.Given as goal

abbrev pub invariant-loop-b : goal.invariant-loop-b
invariant-loop-b l =
    walked (table_of l.image l.rows) l.p l.r l.stop (drop l.b-index l.walk) ≡ walk_of (table_of l.image l.rows) l.p l.r l.walk
