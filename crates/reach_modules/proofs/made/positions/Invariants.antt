use Rattle.std.proofs.Common.{◌↔◌, ℕ, ◌<◌, Contains, IsTrue}
use Rattle.row_modules.specs.Positions.{has}
use Rattle.reach_modules.proofs.made.positions.Given as goal

abbrev pub invariant-loop-i : goal.invariant-loop-i
invariant-loop-i l = (k : ℕ) → Contains l.positions k ↔ ((k < l.i) × IsTrue (has l.set k))
