use Rattle.std.proofs.Common.{◌≡◌, ◌++◌, drop}
use Rattle.abi_lines.specs.Lines.{all_lines}
use Rattle.abi_lines.proofs.writer.push_routines.Given as goal

abbrev pub invariant-loop-routine : goal.invariant-loop-routine
invariant-loop-routine l =
    l.text.items ++ all_lines l.symbols (drop l.routine-index l.routines) ≡ l.initial.text.items ++ all_lines l.symbols l.routines
