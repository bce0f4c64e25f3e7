use Rattle.std.proofs.Common.{take}
use Rattle.std.specs.List.{AllZip}
use Rattle.merged_heads.specs.BlockPrograms.{IsBlockEdge, edges_to}
use Rattle.block_program.proofs.small_edges.block_edges.Given as goal

abbrev pub invariant-loop-edge : goal.invariant-loop-edge
invariant-loop-edge l = AllZip (IsBlockEdge l.program l.merging l.heads) (edges_to l.heads (take l.edge-index l.program.edges)) l.edges
