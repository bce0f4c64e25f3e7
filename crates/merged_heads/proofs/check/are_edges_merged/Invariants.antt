use Rattle.std.proofs.Common.{take, All}
use Rattle.merged_heads.specs.Merges.{IsEdgeMerged}
use Rattle.merged_heads.proofs.check.are_edges_merged.Given as goal

abbrev pub invariant-loop-edge : goal.invariant-loop-edge
invariant-loop-edge l = All (IsEdgeMerged l.program l.table) (take l.edge-index l.program.edges)
