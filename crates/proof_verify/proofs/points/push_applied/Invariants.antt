use Rattle.std.proofs.Common.{◌≡◌, ◌++◌, map, take}
use Rattle.map_modules.specs.Matrices.{apply}
use Rattle.proof_verify.proofs.points.push_applied.Given as goal

abbrev pub invariant-loop-state : goal.invariant-loop-state
invariant-loop-state l = l.rows ≡ l.fn.rows ++ map (apply l.m) (take l.state-index l.states)
