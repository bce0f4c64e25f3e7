use Rattle.tests_algebra.proofs.verdicts.steps_under_simple_choices.Given as goal

abbrev pub ghosts-have_verdicts : goal.ghosts-have_verdicts
ghosts-have_verdicts g a = record { name = a.blank.name; parts = a.blank.parts }
