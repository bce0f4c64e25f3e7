use Rattle.std.proofs.Common.{◌<◌, ◌≤◌, List, length, Ok, Err, sym, subst}
use Rattle.std.specs.Ordering.{nat_cmp}
use Rattle.std.specs.List.Sorted.{IsBinarySearchResult}
use Rattle.run_watch.specs.Runs.{IsPut}
use Rattle.run_watch.specs.declared.places.CodeAt.{CodeAt}
use Rattle.run_watch.proofs.Placing.{placed, found_there}
use Rattle.run_watch.proofs.instructions.put.Goals as goal

pub returns-in_ok-insert : goal.returns-in_ok-insert
returns-in_ok-insert c =
    let within = subst (λ (xs : List CodeAt). c.in-Err.place ≤ length xs) c.deref.ensures.value c.in-Err.ensures.within in
    let found = subst (λ (xs : List CodeAt). IsBinarySearchResult (λ y. nat_cmp y.address c.args.at.address) xs (Err c.in-Err.place))
    c.deref.ensures.value c.in-Err.ensures.place in
    subst (λ xs. IsPut c.args.code.now.items c.args.at xs) (sym c.in_ok-insert.ensures.items)
    (placed c.args.code.now.items c.args.at c.in-Err.place within c.requires found)

pub returns-in_default : goal.returns-in_default
returns-in_default c =
    let within = subst (λ (xs : List CodeAt). c.in_default.field-0 < length xs) c.deref.ensures.value c.in_default.ensures.within in
    let found = subst (λ (xs : List CodeAt). IsBinarySearchResult (λ y. nat_cmp y.address c.args.at.address) xs (Ok c.in_default.field-0))
    c.deref.ensures.value c.in_default.ensures.place in
    found_there c.args.code.now.items c.args.at c.in_default.field-0 within c.requires found
