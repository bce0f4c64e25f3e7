use Rattle.abi_routines.proofs.search.turned.Given as goal

abbrev pub decreases-loop-left : goal.decreases-loop-left
decreases-loop-left l = l.left
