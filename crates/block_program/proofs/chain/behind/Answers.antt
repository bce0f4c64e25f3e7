use Rattle.std.proofs.Common.{ℕ, ap, sym, subst, ◌∙◌, arith, slice_index_or, List}
use Rattle.std.specs.Prelude.{Option, None}
use Rattle.std.proofs.lemmas.List.{get_or_default}
use Rattle.affine_prog.specs.declared.Edge.{Edge}
use Rattle.affine_prog.specs.Programs.{IsEdgeOf}
use Rattle.merged_heads.proofs.Lemmas.{parent_at}
use Rattle.block_program.proofs.Walking.{Walked, walked_more, walked_all, none_of_all}
use Rattle.block_program.proofs.chain.behind.Goals as goal

pub loop-at-preserved : goal.loop-at-preserved
loop-at-preserved c =
    let program = c.args.program.now in
    let merging = c.args.merging.now in
    let edges = program.edges in
    let k = c.in-Some.k in
    let w = c.loop-at.invariant in
    let entry = ap (λ (xs : List (Option ℕ)). slice_index_or xs c.loop-at.at None) (sym c.as_slice-edges_into.ensures) ∙ c.in-Some.is in
    let one = parent_at program merging c.requires.formed c.requires.merged c.loop-at.at k w.below entry in
    let same = ap (λ (xs : List Edge). (slice_index_or xs k c.index-as_slice-k.result).from) c.as_slice.ensures in
    let formed : IsEdgeOf program (slice_index_or edges k c.index-as_slice-k.result) = c.requires.formed.edges k c.index-as_slice-k.result one.within in
    subst (Walked program merging c.args.node (slice_index_or c.as_slice.result.now k c.index-as_slice-k.result).from) (let e = c.in_ok-push.ensures {u = tt} in sym e.items)
    (walked_more program merging c.args.node c.loop-at.at k _ c.loop-at.path.items entry one
    (λ d. same ∙ ap (λ (x : Edge). x.from) (get_or_default edges k c.index-as_slice-k.result d one.within))
    (let f = formed.from in omega (arith, same)) w)

pub returns-clause-leads : goal.returns-clause-leads
returns-clause-leads c =
    let merging = c.args.merging.now in
    let w = c.loop-at.invariant in
    let none = none_of_all _ c.in_default.not-Some in
    walked_all c.args.program.now merging c.args.node c.loop-at.at c.loop-at.path.items
    (ap (λ (xs : List (Option ℕ)). slice_index_or xs c.loop-at.at None) (sym c.as_slice-edges_into.ensures) ∙ none) w
