use Rattle.refute_answers.proofs.asking.refute_row.Given as goal

abbrev pub ghosts-refute_from : goal.ghosts-refute_from
ghosts-refute_from a = record { name = a.blank.name; parts = a.blank.parts }
