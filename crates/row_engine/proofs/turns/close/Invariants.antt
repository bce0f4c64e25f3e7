use Rattle.row_engine.proofs.Closing.{ClosingSoFar}
use Rattle.row_engine.proofs.Measure.{measure}
use Rattle.row_engine.proofs.turns.close.Given as goal

abbrev pub invariant-loop-node : goal.invariant-loop-node
invariant-loop-node g l = ClosingSoFar g.row.N (g.M.Moves.count l.moves) (g.M.Moves.makes l.moves) (g.M.Moves.joins l.moves) (g.M.Moves.states l.moves) l.fn.nodes l.nodes l.fn.steps l.steps

abbrev pub decreases-loop-node : goal.decreases-loop-node
decreases-loop-node g l = measure g.row.N l.nodes
