use Rattle.tests_algebra.proofs.summaries.are_found.Given as goal

abbrev pub ghosts-bases_are : goal.ghosts-bases_are
ghosts-bases_are a = record { name = a.blank.name; parts = a.blank.parts }
