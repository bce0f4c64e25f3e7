use Rattle.lead_basis.proofs.annihilator.Basis+17.annihilator.Given as goal

abbrev pub ghosts-annihilator_of : goal.ghosts-annihilator_of
ghosts-annihilator_of a = record { name = a.blank.name; parts = a.blank.parts }
