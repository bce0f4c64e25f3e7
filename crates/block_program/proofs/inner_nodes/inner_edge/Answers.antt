use Rattle.std.proofs.Common.{◌≡◌, ◌<◌, ◌==◌, ap, sym, subst, ◌∙◌, arith, refl, slice_index_or, List}
use Rattle.std.proofs.lemmas.Bool.{false≢true}
use Rattle.affine_prog.specs.declared.Edge.{Edge}
use Rattle.affine_prog.specs.Programs.{IsEdgeOf}
use Rattle.block_program.specs.declared.Tally.TheVariants.{Nothing, One}
use Rattle.block_program.specs.Tallies.{IsTally, number_of}
use Rattle.block_program.proofs.Alone.{is_entered}
use Rattle.block_program.proofs.inner_nodes.inner_edge.Goals as goal

pub returns-then-not-is_end : goal.returns-then-not-is_end
returns-then-not-is_end c =
    let program = c.args.program.now in
    let edges = program.edges in
    let v = c.args.node in
    let k = c.in-One.k in
    let e : Edge = c.index-as_slice-k.result in
    let into : IsTally (λ x. x.to == v) edges (One k) = subst (IsTally (λ x. x.to == v) edges) c.in-One.is (c.requires.into.told v c.requires.node) in
    let is : e ≡ slice_index_or edges k e = c.index-as_slice-k.is ∙ ap (λ (xs : List Edge). slice_index_or xs k e) c.as_slice.ensures in
    let formed : IsEdgeOf program (slice_index_or edges k e) = c.requires.formed.edges k e into.0 in
    let from_below : e.from < program.nodes = (let f = formed.from in omega (arith, ap (λ (x : Edge). x.from) is)) in
    let out : IsTally (λ x. x.from == e.from) edges (One (number_of (slice_index_or c.args.out.now e.from Nothing))) =
    subst (IsTally (λ x. x.from == e.from) edges) (c.if-is_one.ensures.0 refl) (c.requires.out.told e.from from_below) in
    is_entered program v k e into.0 into.1 e is (c.if-calls_nothing.ensures.0 refl) _ out c.if-edge-node.true (λ x. false≢true (sym c.if-not-is_end.true ∙ c.requires.ends.1 x))
