use Rattle.std.proofs.Common.{◌≡◌, take}
use Rattle.merged_heads.proofs.check.are_same.Given as goal

abbrev pub invariant-loop-k : goal.invariant-loop-k
invariant-loop-k l = take l.k l.some ≡ take l.k l.other
