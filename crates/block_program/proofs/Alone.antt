-- When a node is inner, by the edges at it and at the node before it.
use Rattle.std.proofs.Common.{◌≡◌, ℕ, ◌<◌, inl, inr, List, [], ◌∷◌, Contains, length, get_or, All, true, refl, ap, sym, subst, ◌∙◌, arith, ◌==◌}
use Rattle.std.proofs.lemmas.Bool.{eq-eqb, eqb-true}
use Rattle.std.proofs.lemmas.List.Elements.{Contains-get_or, filter_passes}
use Rattle.affine_prog.specs.declared.Program.{Program}
use Rattle.affine_prog.specs.declared.Edge.{Edge}
use Rattle.affine_prog.specs.declared.Kind.{Kind}
use Rattle.affine_prog.specs.declared.Kind.TheVariants.{Do}
use Rattle.affine_prog.specs.Programs.{edge}
use Rattle.block_program.specs.declared.Tally.TheVariants.{One}
use Rattle.merged_heads.specs.Merges.{assigns_of}
use Rattle.block_program.specs.InnerNodes.{edges_into, IsEnd}
use Rattle.block_program.specs.Tallies.{IsTally}
use Rattle.block_program.specs.EdgesInto.{IsEdgeInto}
use Rattle.row_modules.proofs.Laws.{nothing_contained, first_or_later}
use Rattle.merged_heads.proofs.Lemmas.{filter_in}

pub only_member : {X : Type 0} (x y : X) → Contains (y ∷ []) x → x ≡ y
only_member x y h = elim (first_or_later y [] x h) [ inl e ↦ e | inr k ↦ absurd (nothing_contained x k) ]

module _ (program : Program) (v k : ℕ) (d : Edge) (within : k < length program.edges) (into : (x : Edge) → edges_into program v ≡ get_or program.edges k x ∷ []) where
  pub is_entered : (e : Edge) → e ≡ get_or program.edges k d → e.kind ≡ Do (assigns_of e.kind) → (j : ℕ) → IsTally (λ x. x.from == e.from) program.edges (One j) → e.from < v → (IsEnd program v → ⊥) → IsEdgeInto program v k
  is_entered e is makes j out behind no_end =
      let passes : All (λ (x : Edge). (x.to == v) ≡ true) (get_or program.edges k d ∷ []) = subst (All (λ (x : Edge). (x.to == v) ≡ true)) (into d) (filter_passes (λ (x : Edge). x.to == v) program.edges) in
      let at : e.to ≡ v = ap (λ (x : Edge). x.to) is ∙ eqb-true (get_or program.edges k d).to v (passes 0 d (omega arith)) in
      let whole : e ≡ edge e.from v (Do (assigns_of e.kind)) = ap (λ (n : ℕ). edge e.from n e.kind) at ∙ ap (λ (x : Kind). edge e.from v x) makes in
      let member : Contains program.edges e = subst (Contains program.edges) (sym is) (Contains-get_or program.edges k d within) in
      let first = only_member e (get_or program.edges j e) (subst (λ (xs : List Edge). Contains xs e) (out.1 e) (filter_in (λ (x : Edge). x.from == e.from) program.edges e (eq-eqb e.from e.from refl) member)) in
      record {
        inner = record {
          from = e.from;
          assigns = assigns_of e.kind;
          into = into d ∙ ap (λ (x : Edge). x ∷ []) (sym is ∙ whole);
          out = out.1 e ∙ ap (λ (x : Edge). x ∷ []) (sym first ∙ whole);
          behind = behind;
          no_end = no_end;
        };
        within = within;
        is = λ x. head_of (sym (into x) ∙ into d) ∙ sym is ∙ whole;
      }
    where
      head_of : {a b : Edge} → a ∷ [] ≡ b ∷ [] → a ≡ b
      head_of {a} {b} same = ap (λ (xs : List Edge). get_or xs 0 a) same
