use Rattle.abi_routines.proofs.search.look_for.Given as goal

abbrev pub decreases-loop-left : goal.decreases-loop-left
decreases-loop-left l = l.left
