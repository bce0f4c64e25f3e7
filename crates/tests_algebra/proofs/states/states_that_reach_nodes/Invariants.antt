use Rattle.tests_algebra.proofs.states.states_that_reach_nodes.Given as goal

abbrev pub ghosts-are_reached : goal.ghosts-are_reached
ghosts-are_reached g a = record { name = a.blank.name; parts = a.blank.parts }
