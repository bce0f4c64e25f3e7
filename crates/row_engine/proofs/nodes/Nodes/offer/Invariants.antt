use Rattle.std.proofs.Common.{take}
use Rattle.row_engine.specs.Growth.{Offered}
use Rattle.row_engine.proofs.InTurn.{TakenSoFar}
use Rattle.row_engine.proofs.nodes.Nodes.offer.Given as goal

abbrev pub invariant-loop-row : goal.invariant-loop-row
invariant-loop-row g l = TakenSoFar g.row.N (Offered g.row.N l.to l.rows) (Offered g.row.N l.to (take l.row-index l.rows)) l.fn.self l.self l.fn.steps l.steps
