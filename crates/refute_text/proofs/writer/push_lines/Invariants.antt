-- What is written and what stands for the derivations to come is the whole text.
use Rattle.std.proofs.Common.{◌≡◌, ◌+◌, ◌++◌, drop}
use Rattle.refute_text.specs.Text.{lines_text}
use Rattle.refute_text.proofs.writer.push_lines.Given as goal

abbrev pub invariant-loop-i : goal.invariant-loop-i
invariant-loop-i l =
    l.text.items ++ lines_text l.points l.names l.program (l.i + 1) (drop l.i l.derivs)
    ≡ l.initial.text.items ++ lines_text l.points l.names l.program 1 l.derivs
