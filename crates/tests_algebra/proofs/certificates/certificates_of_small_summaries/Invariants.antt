use Rattle.tests_algebra.proofs.certificates.certificates_of_small_summaries.Given as goal

abbrev pub ghosts-are_certified : goal.ghosts-are_certified
ghosts-are_certified g a = record { name = a.blank.name; parts = a.blank.parts }
