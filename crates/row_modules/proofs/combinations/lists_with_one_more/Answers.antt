use Rattle.std.proofs.Common.{Contains}
use Rattle.row_modules.specs.Modules.{AreRows}
use Rattle.row_modules.proofs.Closure.{combination_is_row}
use Rattle.row_modules.proofs.Lists.{contains_first, contains_later, split_first, with_multiple, combination_adds_nothing}
use Rattle.row_modules.proofs.combinations.lists_with_one_more.Goals as goal

pub returns-clause-same : goal.returns-clause-same
returns-clause-same c =
    λ n row rows later m. combination_adds_nothing n row rows (combination_is_row n (Contains rows) later row m) later m

pub returns-clause-split : goal.returns-clause-split
returns-clause-split c = λ n row rows v wide.
    let first = wide row (contains_first row rows) in
    let later : AreRows n (Contains rows) = λ u h. wide u (contains_later row rows u h) in
    (λ m. let s = split_first n row rows first later v m in (s.factor, s.rest, s.combination, s.is), λ (k, u, m, e). rw e (with_multiple n row rows first later k u m))
