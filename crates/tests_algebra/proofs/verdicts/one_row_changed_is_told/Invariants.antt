use Rattle.tests_algebra.proofs.verdicts.one_row_changed_is_told.Given as goal

abbrev pub ghosts-have_verdicts : goal.ghosts-have_verdicts
ghosts-have_verdicts g a = record { name = a.blank.name; parts = a.blank.parts }
