-- The table of the inner nodes is a right one, and its heads are those of the simple notion.
use Rattle.std.proofs.Common.{◌≡◌, ℕ, ◌+◌, ◌<◌, inl, inr, List, [], ◌∷◌, ◌++◌, Contains, refl, ap, sym, subst, ◌∙◌, arith, ◌==◌}
use Rattle.std.specs.Prelude.{Option, None, Some, MatchOption}
use Rattle.std.proofs.lemmas.Bool.{cases_eq, eq-eqb}
use Rattle.std.proofs.lemmas.List.{length_push, get_or_append_left, get_or_push}
use Rattle.std.proofs.lemmas.List.Elements.{All-contains}
use Rattle.affine_prog.specs.declared.Program.{Program}
use Rattle.affine_prog.specs.declared.Edge.{Edge}
use Rattle.affine_prog.specs.declared.Kind.TheVariants.{Do}
use Rattle.affine_prog.specs.Programs.{edge, entry_of, exit_of, IsEdgeOf, IsWellFormed}
use Rattle.merged_heads.specs.declared.Merging.{Merging}
use Rattle.merged_heads.specs.Merges.{edge_number, class_of, IsParent, IsParentEdge, IsEdgeMerged, assigns, IsMergedTable}
use Rattle.merged_heads.specs.BlockPrograms as merged
use Rattle.merged_heads.proofs.Lemmas.{filter_in, none_some}
use Rattle.block_program.specs.InnerNodes.{IsInner, NumbersHeads}
use Rattle.block_program.specs.EdgesInto.{IsEdgeInto, AreOwnClasses, IsSimpleTable}
use Rattle.block_program.proofs.Alone.{only_member}

pub own_push : (n : ℕ) (classes : List ℕ) → AreOwnClasses n classes → AreOwnClasses (n + 1) (classes ++ n ∷ [])
own_push n classes c = record {
  long = let l = length_push classes n in let m = c.long in omega arith;
  own = λ v below. elim (cases_eq v n) [
    | inl same ↦ get_or_push classes n 0 v (c.long ∙ sym same) ∙ sym same
    | inr other ↦ let inside : v < n = omega (arith, other, below) in get_or_append_left classes (n ∷ []) 0 v (omega (arith, inside, c.long)) ∙ c.own v inside
  ];
}

module _ (program : Program) (w : IsWellFormed program) (merging : Merging) (t : IsSimpleTable program merging) where
  entered : (v k : ℕ) → v < program.nodes → edge_number merging v ≡ Some k → IsEdgeInto program v k
  entered v k below some = let e = t.edges_into in subst (λ (x : Option ℕ). MatchOption x (IsInner program v → ⊥) (IsEdgeInto program v)) some (e.at v below)

  not_entered : (v : ℕ) → v < program.nodes → (IsInner program v → ⊥) → edge_number merging v ≡ None
  not_entered v below head = by (edge_number merging v) refl
    where
      by : (o : Option ℕ) → edge_number merging v ≡ o → o ≡ None
      by None none = refl
      by (Some k) some = let e = entered v k below some in absurd (head e.inner)

  own : (v : ℕ) → v < program.nodes → class_of merging v ≡ v
  own v below = let c = t.classes in c.own v below

  node_at : (v : ℕ) → v < program.nodes → (o : Option ℕ) → edge_number merging v ≡ o → MatchOption o (class_of merging v ≡ v) (IsParentEdge program v)
  node_at v below None none = own v below
  node_at v below (Some k) some =
      let e = entered v k below some in
      let i = e.inner in
      record { from = i.from; list = i.assigns; within = e.within; is = e.is; below = i.behind }

  edge_at : (e : Edge) → Contains program.edges e → (o : Option ℕ) → edge_number merging e.to ≡ o → IsEdgeMerged program merging e
  edge_at e contains None none = inl none
  edge_at e contains (Some k) some =
      let f = All-contains (IsEdgeOf program) program.edges e w.edges contains in
      let i = entered e.to k f.to some in
      let n = i.inner in
      let one : e ≡ edge n.from e.to (Do n.assigns) =
      only_member e (edge n.from e.to (Do n.assigns)) (subst (λ (xs : List Edge). Contains xs e) n.into (filter_in (λ (x : Edge). x.to == e.to) program.edges e (eq-eqb e.to e.to refl) contains)) in
      let parent : IsParent program merging e.to n.from n.assigns = record { number = k; entry = some; within = i.within; is = i.is } in
      inr (assigns n.from n.assigns (subst (λ (x : ℕ). IsParent program merging x n.from n.assigns) (sym (own e.to f.to)) parent) (ap (λ (x : Edge). x.kind) one)
      (ap (λ (x : Edge). class_of merging x.from) one))

  pub simple_merged : IsMergedTable program merging
  simple_merged = record {
    long = record { edges_into = let e = t.edges_into in e.long; classes = let c = t.classes in c.long };
    classes = λ v below. record { node = let e = own v below in omega (arith, e, below); first = let e = own v below in omega (arith, e) };
    nodes = λ v below. node_at v below (edge_number merging v) refl;
    edges = λ e contains. edge_at e contains (edge_number merging e.to) refl;
    ends = λ p within.
        let o = w.procs p within in
        record {
          entry = not_entered (entry_of program p) o.entry (λ i. i.no_end (record { proc = p; within = within; either = inl refl }));
          exit = not_entered (exit_of program p) o.exit (λ i. i.no_end (record { proc = p; within = within; either = inr refl }));
        };
  }

  pub simple_numbers : (heads : List ℕ) → merged.NumbersHeads program merging heads → NumbersHeads program heads
  simple_numbers heads n = record {
    order = n.order;
    all = λ u. (
      λ c. let h = (n.all u).0 c in record {
        node = h.node;
        not_inner = λ inner. let e = t.edges_into in by u h.not_merged inner (edge_number merging u) refl (e.at u h.node);
      },
      λ h. (n.all u).1 (record { node = h.node; not_merged = not_entered u h.node h.not_inner }),
    );
  }
    where
      by : (u : ℕ) → edge_number merging u ≡ None → IsInner program u → (o : Option ℕ) → edge_number merging u ≡ o → MatchOption o (IsInner program u → ⊥) (IsEdgeInto program u) → ⊥
      by u none inner None is not = not inner
      by u none inner (Some k) is e = none_some (edge_number merging u) k none is
