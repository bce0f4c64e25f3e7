use Rattle.std.proofs.Common.{◌≡◌, drop}
use Rattle.entry_walks.specs.Walks.{is_among}
use Rattle.entry_walks.proofs.walks.is_among.Given as goal

abbrev pub invariant-loop-target : goal.invariant-loop-target
invariant-loop-target l = is_among (drop l.target-index l.targets) l.b ≡ is_among l.targets l.b
