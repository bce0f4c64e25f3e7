use Rattle.narrow_solver.proofs.solve.narrow_relations.Given as goal

abbrev pub ghosts-scaled_basis : goal.ghosts-scaled_basis
ghosts-scaled_basis a = record { name = a.blank.name; parts = a.blank.parts }
