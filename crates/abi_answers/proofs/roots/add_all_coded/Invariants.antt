use Rattle.std.proofs.Common.{◌≡◌, ◌++◌, drop}
use Rattle.abi_answers.specs.Answers.{all_coded}
use Rattle.abi_answers.proofs.roots.add_all_coded.Given as goal

abbrev pub invariant-loop-symbol : goal.invariant-loop-symbol
invariant-loop-symbol l = l.roots ++ all_coded l.image (drop l.symbol-index l.symbols) ≡ l.initial.roots ++ all_coded l.image l.symbols
