use Rattle.std.proofs.Common.{◌≡◌, ◌+◌, ◌-◌, length, subst, arith}
use Rattle.refute_path.proofs.Traced.{found_item}
use Rattle.needed_derivs.specs.Needed.{numbers_in}
use Rattle.needed_derivs.specs.Marks.{Marks}
use Rattle.needed_derivs.proofs.Closing.{MarkedFrom, marked_begin, marked_down, marked_end}
use Rattle.needed_derivs.proofs.Growing.{up_to}
use Rattle.needed_derivs.proofs.marks.mark_needed.Goals as goal

pub loop-place-init : goal.loop-place-init
loop-place-init c =
    let new = c.mark_all.new.marks in
    marked_begin c.args.derivs.now c.args.path.now new (subst (λ l. Marks c.args.path.now l new) c.requires.none c.mark_all.ensures)

pub mark_at-requires-clause-named : goal.mark_at-requires-clause-named
mark_at-requires-clause-named c =
    let k = c.loop-place.place - 1 in
    let x = c.index-derivs-place.result in
    let place = c.loop-place.invariant.place in
    let size = c.loop-place.invariant.size in
    let some = c.loop-place-test.true in
    let at = found_item c.args.derivs.now k x (omega (arith, place, some)) c.index-derivs-place.is in
    up_to k (length c.loop-place.marks) (numbers_in x) (omega (arith, place, size, some)) (c.requires.ordered.earlier k x at)

pub loop-place-preserved : goal.loop-place-preserved
loop-place-preserved c =
    let k = c.loop-place.place - 1 in
    let x = c.index-derivs-place.result in
    let marks = c.loop-place.marks in
    let place = c.loop-place.invariant.place in
    let some = c.loop-place-test.true in
    let at = found_item c.args.derivs.now k x (omega (arith, place, some)) c.index-derivs-place.is in
    let e : c.loop-place.place ≡ k + 1 = omega (arith, some) in
    marked_down c.args.derivs.now c.args.path.now marks c.mark_at.new.marks k x at (c.requires.ordered.earlier k x at)
    (subst (MarkedFrom c.args.derivs.now c.args.path.now marks) e c.loop-place.invariant) c.mark_at.ensures

pub returns : goal.returns
returns c =
    let done = c.loop-place-test.false in
    marked_end c.args.derivs.now c.args.path.now c.loop-place.marks c.loop-place.place (omega (arith, done)) c.loop-place.invariant
