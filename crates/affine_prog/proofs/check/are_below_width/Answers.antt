use Rattle.std.proofs.Common.{◌^◌}
use Rattle.affine_prog.proofs.Lists.{sets_below, slots_below}
use Rattle.affine_prog.proofs.check.are_below_width.Goals as goal

pub returns-then-is_below : goal.returns-then-is_below
returns-then-is_below c =
    let e = c.as_slice.ensures in
    let n = 2 ^ c.args.program.now.width in
    let procs = c.args.program.now.procs in (
      λ t. sets_below n _ procs (c.is_below.ensures.0 c.if-is_below.true) (rw e at (c.are_slots_below.ensures.0 t)),
      λ all. c.are_slots_below.ensures.1 (rw e (slots_below n _ procs all)),
    )
