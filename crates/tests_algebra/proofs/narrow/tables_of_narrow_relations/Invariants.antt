use Rattle.tests_algebra.proofs.narrow.tables_of_narrow_relations.Given as goal

abbrev pub ghosts-are_given : goal.ghosts-are_given
ghosts-are_given g a = record { name = a.blank.name; parts = a.blank.parts }
