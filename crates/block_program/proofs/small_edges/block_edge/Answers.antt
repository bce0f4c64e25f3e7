use Rattle.std.proofs.Common.{ℕ, ap, sym, subst, ◌∙◌, arith, List}
use Rattle.merged_heads.specs.Chains.{Chain}
use Rattle.merged_heads.specs.BlockPrograms.{behind}
use Rattle.block_program.specs.EdgesInto.{assigns_behind}
use Rattle.block_program.specs.Numbers.{IsNumber}
use Rattle.block_program.proofs.Placed.{chain_head, head_number}
use Rattle.block_program.proofs.small_edges.block_edge.Goals as goal

pub number_of-from-requires : goal.number_of-from-requires
number_of-from-requires c =
    let e = c.in_ok-head.ensures {u = tt} in
    let h = chain_head c.args.program.now c.args.merging.now _ _ _ e.leads in
    let n = h.node in omega (arith, c.requires.numbers.long)

pub returns : goal.returns
returns c =
    let program = c.args.program.now in
    let e = c.in_ok-head.ensures {u = tt} in
    let k = c.in_ok-kind.ensures {u = tt} in
    let at = c.in_ok-head.head in
    let path = c.in_ok-head.path.items in
    let n : IsNumber c.args.heads.now at c.number_of-from.result =
    subst (IsNumber c.args.heads.now at) (sym c.number_of-from.ensures) (head_number program c.args.merging.now c.args.heads.now c.args.numbers.now c.requires.numbers at (chain_head program c.args.merging.now _ _ _ e.leads)) in
    record {
      from = n.within;
      to = c.requires.to.within;
      same_end = c.requires.to.is;
      chain = assigns_behind program.edges path;
      leads = subst (λ (u : ℕ). Chain program c.args.merging.now u c.args.edge.now.from (assigns_behind program.edges path)) (sym n.is) e.leads;
      kind = k ∙ ap (λ (xs : List ℕ). behind (assigns_behind program.edges xs) c.args.edge.now.kind) c.as_slice.ensures.value;
    }
