use Rattle.merged_heads.proofs.Told.{told}
use Rattle.merged_heads.proofs.check.is_merged_table.Goals as goal

pub returns : goal.returns
returns c = λ holds.
    told c.args.program.now c.args.table.now (c.is_long.ensures c.if-not-is_long.false) (c.are_nodes_merged.ensures c.if-not-are_nodes_merged.false) (c.are_edges_merged.ensures c.if-not-are_edges_merged.false) (c.are_ends_heads.ensures holds)
