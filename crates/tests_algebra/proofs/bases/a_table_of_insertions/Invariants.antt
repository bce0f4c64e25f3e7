use Rattle.tests_algebra.proofs.bases.a_table_of_insertions.Given as goal

abbrev pub ghosts-triples : goal.ghosts-triples
ghosts-triples g a = record { name = a.blank.name; parts = a.blank.parts }
