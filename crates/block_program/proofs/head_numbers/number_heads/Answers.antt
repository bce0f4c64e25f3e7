use Rattle.std.proofs.Common.{ℕ, ◌<◌, List, refl, ap, sym, subst, ◌∙◌, arith}
use Rattle.std.specs.Prelude.{Option, None, IsSome, slice_index_or}
use Rattle.block_program.proofs.Numbering.{heads_all, numbered_merged, numbered_head}
use Rattle.block_program.proofs.head_numbers.number_heads.Goals.{in-Some+in_ok-push-in-Some, in-None+in_ok-push-in-None+in_ok-push-in-None-2}
use Rattle.block_program.proofs.head_numbers.number_heads.Goals as goal

pub loop-node-preserved : goal.loop-node-preserved
loop-node-preserved c =
    let program = c.args.program.now in
    let merging = c.args.merging.now in
    let n = c.loop-node.node in
    let below : n < program.nodes = omega (arith, c.loop-node-test.true) in
    elim c.match-edges_into-node.branch [
      | in-Some+in_ok-push-in-Some w ↦
          let pushed = w.in_ok-push-in-Some.ensures {u = tt} in
          let some = ap (λ (xs : List (Option ℕ)). slice_index_or xs n None) (sym c.as_slice-edges_into.ensures) ∙ w.in-Some.is in
          numbered_merged program merging n c.loop-node.heads.items _ c.loop-node.numbers.items _ (ap (λ v. v.items) w.heads-is) (ap (λ v. v.items) w.numbers-is ∙ pushed.items) (subst IsSome (sym some) refl) c.loop-node.invariant
      | in-None+in_ok-push-in-None+in_ok-push-in-None-2 w ↦
          let one = w.in_ok-push-in-None.ensures {u = tt} in
          let two = w.in_ok-push-in-None-2.ensures {u = tt} in
          numbered_head program merging n c.loop-node.heads.items _ c.loop-node.numbers.items _ _ (omega (arith, w.len.ensures, c.loop-node.heads.ok.0)) (ap (λ v. v.items) w.heads-is ∙ two.items) (ap (λ v. v.items) w.numbers-is ∙ one.items)
          (record { node = below; not_merged = ap (λ (xs : List (Option ℕ)). slice_index_or xs n None) (sym c.as_slice-edges_into.ensures) ∙ w.in-None.is }) c.loop-node.invariant
    ]

pub returns-clause-heads : goal.returns-clause-heads
returns-clause-heads c = heads_all c.args.program.now c.args.merging.now c.loop-node.node c.loop-node.heads.items (omega (arith, c.loop-node-test.false)) c.loop-node.invariant.0
