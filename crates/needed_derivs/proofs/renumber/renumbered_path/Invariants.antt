-- What is written and the new numbers of those to come are the whole path.
use Rattle.std.proofs.Common.{◌≡◌, ◌++◌, drop, map}
use Rattle.needed_derivs.specs.Renumbered.{number_at}
use Rattle.needed_derivs.proofs.renumber.renumbered_path.Given as goal

abbrev pub invariant-loop-n : goal.invariant-loop-n
invariant-loop-n l = l.own ++ map (number_at l.numbers) (drop l.n-index l.path) ≡ map (number_at l.numbers) l.path
