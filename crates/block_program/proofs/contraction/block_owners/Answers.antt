use Rattle.std.proofs.Common.{ap, arith, length, slice_index_or}
use Rattle.std.proofs.lemmas.List.Elements.{Contains-get_or}
use Rattle.block_program.proofs.contraction.block_owners.Goals as goal

pub bounds-as_slice-head : goal.bounds-as_slice-head
bounds-as_slice-head c =
    let h = (c.requires.heads.all (slice_index_or c.args.heads.now c.loop-head.head-index 0)).0 (Contains-get_or c.args.heads.now c.loop-head.head-index 0 (omega (arith, c.loop-head-test.true))) in
    omega (arith, h.node, ap length c.as_slice.ensures, c.requires.formed.owners)
