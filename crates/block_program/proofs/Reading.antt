-- What is read of a node: its number among the heads, or the edge from its parent.
use Rattle.std.proofs.Common.{◌≡◌, ℕ, ◌<◌, List, Contains, length, refl, ap, sym, subst, ◌∙◌, arith, slice_index, slice_index_or}
use Rattle.std.specs.Prelude.{Option, None, Some, IsSome, MatchOption}
use Rattle.std.proofs.lemmas.List.Elements.{Contains-get_or}
use Rattle.affine_prog.specs.declared.Program.{Program}
use Rattle.affine_prog.specs.declared.Edge.{Edge}
use Rattle.affine_prog.specs.declared.Kind.TheVariants.{Do}
use Rattle.affine_prog.specs.Programs.{edge, IsWellFormed}
use Rattle.merged_heads.specs.declared.Merging.{Merging}
use Rattle.merged_heads.specs.Merges.{assigns_of, edge_number, IsParent, IsMergedTable}
use Rattle.merged_heads.specs.Chains.{IsHead}
use Rattle.merged_heads.proofs.Lemmas.{parent_at, as_parent, parent_member}
use Rattle.block_program.specs.Contractions.{Contraction}
use Rattle.block_program.specs.Numbers.{AreBlocks, IsNumber, number_of, edge_number_of}
use Rattle.block_program.proofs.Numbering.{not_both}

-- the edge from the parent of a merged node, as it is read
pub record IsStepInto (program : Program) (merging : Merging) (v : ℕ) (e : Edge) : Type 0 where
  pub parent : IsParent program merging v e.from (assigns_of e.kind)
  pub from_below : e.from < v
  pub is_do : e.kind ≡ Do (assigns_of e.kind)
  pub contains : Contains program.edges (edge e.from v (Do (assigns_of e.kind)))

module _ (program : Program) (formed : IsWellFormed program) (blocks : Contraction) (b : AreBlocks program blocks) where
  pub is_table : IsMergedTable program blocks.merging
  is_table = let s = b.small in s.merged

  pub merged_at : (v : ℕ) → v < program.nodes → number_of blocks v ≡ None → IsSome (edge_number_of blocks v)
  merged_at v below none = let t = b.numbers in subst (λ (o : Option ℕ). MatchOption o (IsSome (edge_number_of blocks v)) (IsNumber b.heads v)) none (t.at v below)

  pub number_at : (v i : ℕ) → v < program.nodes → number_of blocks v ≡ Some i → IsNumber b.heads v i
  number_at v i below some = let t = b.numbers in subst (λ (o : Option ℕ). MatchOption o (IsSome (edge_number_of blocks v)) (IsNumber b.heads v)) some (t.at v below)

  pub head_at_number : (i : ℕ) → i < length b.heads → IsHead program blocks.merging (slice_index b.heads i)
  head_at_number i within = let s = b.small in let h = s.numbers in (h.all (slice_index b.heads i)).0 (Contains-get_or b.heads i 0 within)

  pub head_node : (v i : ℕ) → v < program.nodes → number_of blocks v ≡ Some i → IsHead program blocks.merging v
  head_node v i below some = let n = number_at v i below some in subst (IsHead program blocks.merging) n.is (head_at_number i n.within)

  pub none_at : (v : ℕ) → v < program.nodes → IsSome (edge_number_of blocks v) → number_of blocks v ≡ None
  none_at v below merged = by (number_of blocks v) refl
    where
      by : (o : Option ℕ) → number_of blocks v ≡ o → number_of blocks v ≡ None
      by None none = none
      by (Some i) some = let h = head_node v i below some in absurd (not_both (edge_number blocks.merging v) h.not_merged merged)

  pub step_read : (v k : ℕ) (edges : List Edge) (e : Edge) → v < program.nodes → edge_number_of blocks v ≡ Some k → edges ≡ program.edges → e ≡ slice_index_or edges k e
      → IsStepInto program blocks.merging v e
  step_read v k edges e below some same read =
      let r = parent_at program blocks.merging formed is_table v k below some in
      let is : e ≡ edge r.from v (Do r.list) = read ∙ ap (λ (xs : List Edge). slice_index_or xs k e) same ∙ r.is e in
      let from : e.from ≡ r.from = ap (λ (x : Edge). x.from) is in
      let kind : e.kind ≡ Do r.list = ap (λ (x : Edge). x.kind) is in
      let own : r.list ≡ assigns_of e.kind = sym (ap assigns_of kind) in
      let parent : IsParent program blocks.merging v e.from (assigns_of e.kind) =
      subst (λ (x : ℕ). IsParent program blocks.merging v x (assigns_of e.kind)) (sym from)
      (subst (IsParent program blocks.merging v r.from) own (as_parent program blocks.merging formed is_table v k some r)) in
      record {
        parent = parent;
        from_below = let b = r.below in omega (arith, b, from);
        is_do = kind ∙ ap Do own;
        contains = parent_member program blocks.merging v e.from (assigns_of e.kind) parent;
      }
