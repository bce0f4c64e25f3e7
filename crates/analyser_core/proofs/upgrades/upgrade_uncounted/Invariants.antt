use Rattle.analyser_core.proofs.upgrades.upgrade_uncounted.Given as goal

abbrev pub ghosts-upgrade_from : goal.ghosts-upgrade_from
ghosts-upgrade_from a = record { name = a.blank.name; parts = a.blank.parts }
