use Rattle.tests_algebra.proofs.bases.a_row_with_an_even_pivot.Given as goal

abbrev pub ghosts-pairs : goal.ghosts-pairs
ghosts-pairs g a = record { name = a.blank.name; parts = a.blank.parts }
