use Rattle.abi_routines.proofs.search.way_to.Given as goal

abbrev pub decreases-loop-left : goal.decreases-loop-left
decreases-loop-left l = l.left
