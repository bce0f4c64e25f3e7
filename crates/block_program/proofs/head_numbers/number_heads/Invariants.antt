use Rattle.std.proofs.Common.{◌≤◌, length}
use Rattle.block_program.specs.Numbers.{AreHeadsBelow, AreNumbersBelow}
use Rattle.block_program.proofs.head_numbers.number_heads.Given as goal

abbrev pub invariant-loop-node : goal.invariant-loop-node
invariant-loop-node l =
    AreHeadsBelow l.program l.merging l.node l.heads.items × AreNumbersBelow l.merging l.node l.heads.items l.numbers.items × (length l.heads.items ≤ l.node)
