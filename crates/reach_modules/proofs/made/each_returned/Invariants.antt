use Rattle.std.proofs.Common.{◌≡◌, take, flat_map}
use Rattle.reach_modules.specs.Made.{returned_of}
use Rattle.reach_modules.proofs.made.each_returned.Given as goal

abbrev pub invariant-loop-row : goal.invariant-loop-row
invariant-loop-row l = l.all ≡ flat_map (returned_of l.sets.0 l.sets.1 l.exits) (take l.row-index l.rows)
