use Rattle.std.proofs.Common.{◌≡◌, ◌∙◌, ◌+◌, ◌*◌, ◌%◌, ◌^◌, ap, take, arith}
use Rattle.std.specs.Int.{from_bool}
use Rattle.std.proofs.lemmas.List.{length-take}
use Rattle.affine_lift.specs.Lifting.{chooses, positions_where}
use Rattle.affine_lift.proofs.PositionSets.{positions_step, positions_fit}
use Rattle.affine_lift.proofs.positions.positions_where.Goals as goal
use Rattle.affine_lift.proofs.positions.positions_where.Goals.{After-from}

sum_is : (c : After-from) → c.loop-i.positions + c.from.result * 2 ^ c.loop-i.i % 65536 ≡ positions_where (chooses c.args.chosen) (take (c.loop-i.i + 1) c.args.names.now)
sum_is c =
    ap (λ n. n + c.from.result * 2 ^ c.loop-i.i % 65536) c.loop-i.invariant
    ∙ positions_step (chooses c.args.chosen) c.args.names.now c.loop-i.i _ c.from.result c.loop-i-test.true c.requires (c.from.ensures ∙ ap from_bool c.chooses.ensures)

pub overflow_add-positions : goal.overflow_add-positions
overflow_add-positions c =
    let short = length-take (c.loop-i.i + 1) c.args.names.now in
    let fits = positions_fit (chooses c.args.chosen) (take (c.loop-i.i + 1) c.args.names.now) (omega arith) in
    let sum = sum_is c in
    omega arith

pub loop-i-preserved : goal.loop-i-preserved
loop-i-preserved c = sum_is c
