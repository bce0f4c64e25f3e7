use Rattle.std.proofs.Common.{◌≡◌, ℕ, ◌<◌, ◌++◌, ◌-◌, ◌+◌, ap, ap₂, sym, ◌∙◌, arith, drop, slice_index_or, slice_index, length, List}
use Rattle.affine_prog.specs.declared.Edge.{Edge}
use Rattle.affine_prog.specs.declared.Assign.{Assign}
use Rattle.merged_heads.specs.Merges.{assigns_of}
use Rattle.block_program.specs.EdgesInto.{assigns_behind}
use Rattle.block_program.proofs.Walking.{behind_drop}
use Rattle.block_program.proofs.chain.assigns_along.Goals as goal

pub loop-left-preserved : goal.loop-left-preserved
loop-left-preserved c =
    let edges = c.args.program.now.edges in
    let path = c.args.path.now in
    let i = c.loop-left.left - 1 in
    let back : i + 1 ≡ c.loop-left.left = omega (arith, c.loop-left-test.true) in
    let inside : i < length path = omega (arith, c.loop-left.invariant.0, c.loop-left-test.true) in
    let e : Edge = c.index-as_slice-path.result in
    let is : e ≡ slice_index_or edges (slice_index path i) e = c.index-as_slice-path.is ∙ ap (λ (xs : List Edge). slice_index_or xs (slice_index path i) e) c.as_slice.ensures in
    let pushed = c.in_ok-push_all.ensures {u = tt} in (
      omega (arith, inside),
      pushed
          ∙ ap₂ (λ (xs ys : List Assign). xs ++ ys) (c.loop-left.invariant.1 ∙ ap (λ (n : ℕ). assigns_behind edges (drop n path)) (sym back)) (c.assigns_of.ensures ∙ ap (λ (x : Edge). assigns_of x.kind) is)
          ∙ behind_drop edges path i e inside (c.requires i 0 inside),
    )
