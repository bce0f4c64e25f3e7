use Rattle.entry_tables.specs.Settling.{AreLined}
use Rattle.entry_search.proofs.listed.points.Given as goal

abbrev pub invariant-loop-place : goal.invariant-loop-place
invariant-loop-place l = AreLined l.image l.points
