use Rattle.std.proofs.Common.{◌≡◌, ◌++◌, ◌∷◌, take, map}
use Rattle.reach_modules.specs.Made.{alone}
use Rattle.reach_modules.proofs.made.push_opened.Given as goal

abbrev pub invariant-loop-slot : goal.invariant-loop-slot
invariant-loop-slot l = l.rows ≡ l.fn.rows ++ l.fn.kept ∷ map (λ k. alone k l.word) (take l.slot-index l.slots)
