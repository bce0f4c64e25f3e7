use Rattle.std.proofs.Common.{◌≡◌, ◌++◌, take}
use Rattle.reach_modules.specs.Made.{returned_of}
use Rattle.reach_modules.proofs.made.push_returned.Given as goal

abbrev pub invariant-loop-exit : goal.invariant-loop-exit
invariant-loop-exit l = l.rows ≡ l.fn.rows ++ returned_of l.registers l.slots (take l.exit-index l.exits) l.row
