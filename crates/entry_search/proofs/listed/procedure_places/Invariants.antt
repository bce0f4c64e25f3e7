use Rattle.std.proofs.Common.{◌-◌, length}
use Rattle.entry_search.proofs.listed.procedure_places.Given as goal

abbrev pub decreases-loop-at : goal.decreases-loop-at
decreases-loop-at l = length l.known - l.at
