use Rattle.tests_algebra.proofs.bases.an_insertion_through_all_positions.Given as goal

abbrev pub ghosts-deepest : goal.ghosts-deepest
ghosts-deepest g a = record { name = a.blank.name; parts = a.blank.parts }
