use Rattle.std.proofs.Common.{◌≡◌, ◌<◌, ap, ◌∙◌, arith, slice_index_or, length, List}
use Rattle.std.proofs.lemmas.List.{get_or_default}
use Rattle.affine_prog.specs.declared.Edge.{Edge}
use Rattle.affine_prog.specs.Programs.{IsEdgeOf}
use Rattle.block_program.specs.declared.Tally.{Tally}
use Rattle.block_program.specs.declared.Tally.TheVariants.{Nothing}
use Rattle.block_program.specs.Tallies.{end_of, more_of}
use Rattle.block_program.proofs.Tallied.{end_within, told_more, told_all}
use Rattle.block_program.proofs.tallies.tallies.Goals as goal

pub loop-k-preserved : goal.loop-k-preserved
loop-k-preserved c =
    let edges = c.args.program.now.edges in
    let side = c.args.side in
    let k = c.loop-k.k in
    let read = c.index-as_slice-k.result in
    let e : Edge = slice_index_or edges k read in
    let within : k < length edges = omega (arith, c.len-k-end.ensures, c.loop-k-test.true) in
    let at : c.end_of-at.result ≡ end_of side e = c.end_of-at.ensures ∙ ap (end_of side) (c.index-as_slice-k.is ∙ ap (λ (xs : List Edge). slice_index_or xs k read) c.as_slice.ensures) in
    let formed : IsEdgeOf c.args.program.now e = c.requires.edges k read within in
    let below : c.end_of-at.result < c.args.program.now.nodes = omega (arith, at, end_within c.args.program.now e side formed) in
    told_more (end_of side) c.args.program.now.nodes edges c.loop-k.table.items k _ e c.more.result within (get_or_default edges k read e within)
    at below
    (c.more.ensures ∙ ap (λ (x : Tally). more_of x k) (c.index.ensures ∙ get_or_default c.loop-k.table.items _ c.index.result.now Nothing (let l = c.loop-k.invariant.long in omega arith)))
    c.loop-k.invariant

pub returns : goal.returns
returns c =
    told_all (end_of c.args.side) c.args.program.now.nodes c.args.program.now.edges c.loop-k.table.items c.loop-k.k
    (omega (arith, c.len-k-end.ensures, c.loop-k-test.false)) c.loop-k.invariant
