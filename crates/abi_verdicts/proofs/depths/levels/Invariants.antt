use Rattle.std.proofs.Common.{◌≡◌, ◌++◌, drop}
use Rattle.abi_verdicts.specs.Depths.{levels_of}
use Rattle.abi_verdicts.proofs.depths.levels.Given as goal

abbrev pub invariant-loop-point : goal.invariant-loop-point
invariant-loop-point l = l.all ++ levels_of (drop l.point-index l.points) ≡ levels_of l.points
