use Rattle.std.proofs.Common.{◌≡◌, take, flat_map}
use Rattle.reach_modules.specs.Made.{opened_of}
use Rattle.reach_modules.proofs.made.each_opened.Given as goal

abbrev pub invariant-loop-row : goal.invariant-loop-row
invariant-loop-row l = l.all ≡ flat_map (opened_of l.slots l.keep) (take l.row-index l.rows)
