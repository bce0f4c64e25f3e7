use Rattle.std.proofs.Common.{◌≡◌, ◌+◌, ◌≤◌, List, take, ap, arith, ◌∙◌}
use Rattle.std.specs.List.{list_any}
use Rattle.std.proofs.lemmas.List.{take_rest}
use Rattle.std.proofs.lemmas.List.Elements.{All-take}
use Rattle.run_watch.specs.declared.places.CodeAt.{CodeAt}
use Rattle.run_watch.specs.Judges.{holds_code}
use Rattle.run_watch.proofs.CloseCode.{low_only, close_only}
use Rattle.run_watch.proofs.code_bytes.is_in.Goals as goal

pub returns : goal.returns
returns c =
    let code : List CodeAt = c.args.code.now in
    let b = c.args.byte in
    let low : List CodeAt = take c.count_to.result code in
    let from = c.from.ensures in
    let some = c.in-Some.ensures in
    let is : c.in-Some.below + c.args.longest ≡ b = omega (arith, from, some.0, some.1) in
    let room : c.args.longest ≤ b = omega (arith, is) in
    c.some_has-2.ensures ∙ ap (list_any (holds_code b)) (take_rest low c.count_to-2.result)
    ∙ close_only b c.args.longest c.ranges.byte.fits low c.in-Some.below c.count_to-2.result
    (All-take (λ (a : CodeAt). a.length ≤ c.args.longest) c.count_to.result code c.requires.short) is c.count_to-2.ensures.within
    c.count_to-2.ensures.parts
    ∙ low_only b c.args.longest c.ranges.byte.fits code c.count_to.result c.requires.short room c.count_to.ensures.parts
