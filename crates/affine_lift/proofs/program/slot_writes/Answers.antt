use Rattle.std.proofs.Common.{◌∙◌, Option, None, Some, IsSomeAnd, refl, sym, ap, subst}
use Rattle.flow_points.specs.declared.code_points.CodePoint.{CodePoint}
use Rattle.frame_offsets.proofs.Walking.{at_some}
use Rattle.affine_lift.specs.Lifting.{WritesSlots, positions_where}
use Rattle.affine_lift.proofs.SlotsWritten.{writes_slots}
use Rattle.affine_lift.proofs.program.slot_writes.Goals as goal

pub returns-in-None : goal.returns-in-None
returns-in-None c =
    let code = c.code_at-code.result in
    let at = c.code_at-code.ensures.code in
    subst (λ (o : Option CodePoint). IsSomeAnd o (λ d. WritesSlots c.args.points.now.points c.args.tracked.now.names d 0)) (sym at)
    (writes_slots c.args.points.now.points c.args.offsets.now c.args.tracked.now.names c.args.point code c.access_of-access.result None 0
    (λ r small. c.requires.offsets.exact c.args.point code r at small) (at_some _ code _ at c.access_of-access.ensures) (sym c.in-None.is ∙ c.store_of.ensures) refl)

pub returns : goal.returns
returns c =
    let code = c.code_at-code.result in
    let at = c.code_at-code.ensures.code in
    subst (λ (o : Option CodePoint). IsSomeAnd o (λ d. WritesSlots c.args.points.now.points c.args.tracked.now.names d c.positions_where.result)) (sym at)
    (writes_slots c.args.points.now.points c.args.offsets.now c.args.tracked.now.names c.args.point code c.access_of-access.result (Some c.in-Some.store)
    c.positions_where.result (λ r small. c.requires.offsets.exact c.args.point code r at small) (at_some _ code _ at c.access_of-access.ensures)
    (sym c.in-Some.is ∙ c.store_of.ensures) (c.positions_where.ensures ∙ ap (positions_where _) c.as_slice.ensures))
