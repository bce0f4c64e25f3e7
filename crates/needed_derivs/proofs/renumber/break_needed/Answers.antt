use Rattle.needed_derivs.proofs.Short.{is_short, break_still, short_needed}
use Rattle.needed_derivs.proofs.renumber.break_needed.Goals as goal

pub returns-clause-still : goal.returns-clause-still
returns-clause-still c =
    let found = c.args.found.now in
    let kept = c.in_ok-kept.kept in
    let path = c.in_ok-path.path in
    let marks = c.in_ok-marks.marks.items in
    break_still found kept.derivs path kept.numbers marks
    (is_short found kept.derivs c.as_slice-derivs.result.now path c.as_slice-path.result.now c.as_slice-2.result.now kept.numbers c.as_slice.result.now marks
    c.as_slice-derivs.ensures c.as_slice-path.ensures c.as_slice-2.ensures c.as_slice.ensures.value c.in_ok-marks.ensures c.in_ok-kept.ensures c.in_ok-path.ensures)

pub returns-clause-needed : goal.returns-clause-needed
returns-clause-needed c =
    let found = c.args.found.now in
    let kept = c.in_ok-kept.kept in
    let path = c.in_ok-path.path in
    let marks = c.in_ok-marks.marks.items in
    short_needed found kept.derivs path kept.numbers marks
    (is_short found kept.derivs c.as_slice-derivs.result.now path c.as_slice-path.result.now c.as_slice-2.result.now kept.numbers c.as_slice.result.now marks
    c.as_slice-derivs.ensures c.as_slice-path.ensures c.as_slice-2.ensures c.as_slice.ensures.value c.in_ok-marks.ensures c.in_ok-kept.ensures c.in_ok-path.ensures)
