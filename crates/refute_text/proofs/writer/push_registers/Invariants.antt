-- What is written and what stands for the names to come is the whole text.
use Rattle.std.proofs.Common.{◌≡◌, ◌++◌, drop}
use Rattle.refute_text.specs.Text.{registers_text}
use Rattle.refute_text.proofs.writer.push_registers.Given as goal

abbrev pub invariant-loop-i : goal.invariant-loop-i
invariant-loop-i l =
    l.text.items ++ registers_text (drop l.i l.names) (drop l.i l.start) ≡ l.initial.text.items ++ registers_text l.names l.start
