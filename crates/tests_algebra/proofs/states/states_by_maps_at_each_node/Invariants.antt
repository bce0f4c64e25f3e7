use Rattle.tests_algebra.proofs.states.states_by_maps_at_each_node.Given as goal

abbrev pub ghosts-reaches_by_levels : goal.ghosts-reaches_by_levels
ghosts-reaches_by_levels g a = record { name = a.blank.name; parts = a.blank.parts }
