use Rattle.abi_verdicts.proofs.live.ending.Given as goal

abbrev pub decreases-loop-left : goal.decreases-loop-left
decreases-loop-left l = l.left
