use Rattle.std.proofs.Common.{None, sym}
use Rattle.std.proofs.lemmas.List.{length-take-le}
use Rattle.elf_image.proofs.ShortNames.{near_named, near_tested, near_within}
use Rattle.elf_image.proofs.symbols.name_at.Goals as goal

pub returns-in_default-first_zero : goal.returns-in_default-first_zero
returns-in_default-first_zero c =
    near_named c.args.strings.now c.args.at c.in-Some.rest.now c.near.result.now None
    c.in-Some.ensures.lookup.0.2 c.near.ensures c.in_default-first_zero.ensures

pub slice_bounds-text-end : goal.slice_bounds-text-end
slice_bounds-text-end c =
    let end = c.in-Some-first_zero.end in
    sym (length-take-le _ _ (near_within c.in-Some.rest.now c.near.result.now end c.near.ensures c.in-Some-first_zero.ensures))

pub returns-then-is_name : goal.returns-then-is_name
returns-then-is_name c =
    near_tested c.args.strings.now c.args.at c.in-Some.rest.now c.near.result.now c.in-Some-first_zero.end _
    c.in-Some.ensures.lookup.0.2 c.near.ensures c.in-Some-first_zero.ensures c.if-is_name.ensures

pub returns-else-is_name : goal.returns-else-is_name
returns-else-is_name c =
    near_tested c.args.strings.now c.args.at c.in-Some.rest.now c.near.result.now c.in-Some-first_zero.end _
    c.in-Some.ensures.lookup.0.2 c.near.ensures c.in-Some-first_zero.ensures c.if-is_name.ensures
