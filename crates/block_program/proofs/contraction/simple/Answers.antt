use Rattle.std.proofs.Common.{sym, subst}
use Rattle.block_program.specs.EdgesInto.{IsSimpleTable}
use Rattle.block_program.proofs.SimpleTables.{simple_merged, simple_numbers}
use Rattle.block_program.proofs.contraction.simple.Goals as goal

pub numbered-requires : goal.numbered-requires
numbered-requires c = simple_merged c.args.program.now c.requires c.in_ok-merging.merging c.in_ok-merging.ensures

pub returns-clause-heads : goal.returns-clause-heads
returns-clause-heads c =
    let program = c.args.program.now in
    let by = c.in_ok-by.by in
    let table = subst (IsSimpleTable program) (sym c.in_ok-by.ensures.merging) c.in_ok-merging.ensures in
    let n = c.in_ok-by.ensures.numbered in
    simple_numbers program c.requires by.merging table by.heads n.heads
