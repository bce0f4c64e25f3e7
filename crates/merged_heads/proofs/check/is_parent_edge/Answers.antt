use Rattle.std.proofs.Common.{◌≡◌, ℕ, ◌<◌, List, length, slice_index_or, ap, sym, ◌∙◌, arith}
use Rattle.std.proofs.lemmas.Bool.{ltb-true}
use Rattle.std.proofs.lemmas.List.{get_or_default}
use Rattle.affine_prog.specs.declared.Edge.{Edge}
use Rattle.affine_prog.specs.declared.Kind.{Kind}
use Rattle.affine_prog.specs.declared.Kind.TheVariants.{Do}
use Rattle.affine_prog.specs.Programs.{edge}
use Rattle.merged_heads.proofs.check.is_parent_edge.Goals as goal

pub returns-then-edge-node : goal.returns-then-edge-node
returns-then-edge-node c = λ holds.
    let edges = c.args.program.now.edges in
    let k = c.args.k in
    let e : Edge = c.index-as_slice-k.result in
    let within : k < length edges = omega (arith, c.if-k-len.false, c.len.ensures) in
    let read : slice_index_or edges k e ≡ e = sym (c.index-as_slice-k.is ∙ ap (λ (xs : List Edge). slice_index_or xs k e) c.as_slice.ensures) in
    let whole : e ≡ edge e.from c.args.node (Do c.in-Do.field-0) = ap (λ (n : ℕ). edge e.from n e.kind) c.if-edge-node.true ∙ ap (λ (x : Kind). edge e.from c.args.node x) c.in-Do.is in
    record {
      from = e.from;
      list = c.in-Do.field-0;
      within = within;
      is = λ d. sym (get_or_default edges k e d within) ∙ read ∙ whole;
      below = ltb-true e.from c.args.node holds;
    }
