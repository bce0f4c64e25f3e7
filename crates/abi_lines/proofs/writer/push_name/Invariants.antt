use Rattle.std.proofs.Common.{◌≡◌, ◌++◌, drop}
use Rattle.abi_lines.specs.Lines.{name_text}
use Rattle.abi_lines.proofs.writer.push_name.Given as goal

abbrev pub invariant-loop-symbol : goal.invariant-loop-symbol
invariant-loop-symbol l = l.text.items ++ name_text (drop l.symbol-index l.symbols) l.p ≡ l.initial.text.items ++ name_text l.symbols l.p
