use Rattle.std.proofs.Common.{◌≡◌, ◌++◌, drop}
use Rattle.abi_text.specs.Names.{label}
use Rattle.abi_text.proofs.names.push_label.Given as goal

abbrev pub invariant-loop-symbol : goal.invariant-loop-symbol
invariant-loop-symbol l = l.text.items ++ label (drop l.symbol-index l.symbols) l.p ≡ l.initial.text.items ++ label l.symbols l.p
