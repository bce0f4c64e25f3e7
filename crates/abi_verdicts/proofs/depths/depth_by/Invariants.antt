use Rattle.std.proofs.Common.{◌≡◌, drop}
use Rattle.abi_verdicts.specs.Depths.{depth_by, no_depth}
use Rattle.abi_verdicts.proofs.depths.depth_by.Given as goal

abbrev pub invariant-loop-level : goal.invariant-loop-level
invariant-loop-level l = depth_by l.p l.all (drop l.level-index l.levels) ≡ depth_by l.p no_depth l.levels
