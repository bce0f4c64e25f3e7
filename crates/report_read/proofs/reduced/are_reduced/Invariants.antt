use Rattle.report_read.proofs.reduced.are_reduced.Given as goal

-- the ledger is the blank's own
abbrev pub ghosts-basis_from : goal.ghosts-basis_from
ghosts-basis_from a = record { name = a.blank.name; parts = a.blank.parts }
