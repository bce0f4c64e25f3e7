use Rattle.tests_algebra.proofs.bases.what_annihilates_the_multiples_of_eight.Given as goal

abbrev pub ghosts-eights : goal.ghosts-eights
ghosts-eights g a = record { name = a.blank.name; parts = a.blank.parts }
