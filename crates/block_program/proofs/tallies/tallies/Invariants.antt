use Rattle.std.proofs.Common.{take}
use Rattle.block_program.specs.Tallies.{AreTallies, end_of}
use Rattle.block_program.proofs.tallies.tallies.Given as goal

abbrev pub invariant-loop-k : goal.invariant-loop-k
invariant-loop-k l = AreTallies (end_of l.side) l.program.nodes (take l.k l.program.edges) l.table.items
