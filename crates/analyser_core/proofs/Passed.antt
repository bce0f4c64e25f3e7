-- What is told of the states at a node is told of a node to which they are passed on.
use Rattle.std.proofs.Common.{◌≡◌, ℕ, ◌<◌, List, [], Contains, ap, subst}
use Rattle.std.proofs.lemmas.List.Elements.{All-contains}
use Rattle.row_modules.specs.Modules.{SameModule}
use Rattle.row_modules.specs.Positions.{with_constant}
use Rattle.row_modules.proofs.Laws.{same_with, same_members}
use Rattle.lead_basis.proofs.Laws.{turned}
use Rattle.affine_prog.specs.declared.Program.{Program}
use Rattle.affine_prog.specs.declared.Kind.TheVariants.{Do}
use Rattle.affine_prog.specs.Programs.{edge, visible_in, IsWellFormed, IsEdgeOf}
use Rattle.affine_prog.specs.Spans.{IsStateAt}
use Rattle.merged_heads.specs.declared.Merging.{Merging}
use Rattle.merged_heads.specs.Merges.{IsMergedTable}
use Rattle.merged_heads.proofs.Lemmas.{parent_member, passed_on}
use Rattle.report_text.specs.declared.points.PointState.{PointState}
use Rattle.report_text.specs.declared.points.PointState.TheVariants.{Unreached, Rows}
use Rattle.analyser_core.specs.States.{HasStates}
use Rattle.analyser_core.specs.Told.{told_positions, Relates, RelatesAt, PassesOn}

-- modules that are one have the same relations
related_alike : (set : ℕ) (xs ys : List (List ℕ)) → SameModule 17 (Contains xs) (Contains ys) → (state : PointState) → Relates set xs state → Relates set ys state
related_alike set xs ys same Unreached zero = λ v m. zero v (same.back v m)
related_alike set xs ys same (Rows rows) r =
    let g = r.generating in
    record {
      some = λ zero. r.some (λ v m. zero v (same.there v m));
      basis = r.basis;
      reduced = r.reduced;
      generating = record {
        inside = λ a h. let n = g.inside a h in record { on_visible = n.on_visible; vanishes = λ v m. n.vanishes v (same.back v m) };
        all = λ a h. g.all a (record { on_visible = h.on_visible; vanishes = λ v m. h.vanishes v (same.there v m) });
      };
    }

module _ (program : Program) where
  -- what is told by one basis of the states is told by each
  pub relates_at : (u : ℕ) (states : List (List ℕ)) → HasStates program u states → (state : PointState) → Relates (told_positions program u) states state → RelatesAt program u state
  relates_at u states known state related others there =
      related_alike (told_positions program u) states others (same_with 17 _ (IsStateAt program u) _ known (turned 17 _ (IsStateAt program u) there)) state related

  pub passed_related : IsWellFormed program → (merging : Merging) → IsMergedTable program merging → (u v : ℕ) → v < program.nodes → PassesOn program merging u v → (state : PointState) → RelatesAt program u state → RelatesAt program v state
  passed_related formed merging table u v below p state related states known =
      let e = All-contains (IsEdgeOf program) program.edges (edge u v (Do [])) formed.edges (parent_member program merging v u [] p.parent) in
      let passed = passed_on program merging formed table u v below p.parent in
      let positions : told_positions program u ≡ told_positions program v = ap (λ (q : ℕ). with_constant (visible_in program q)) e.one_owner in
      let moved : SameModule 17 (IsStateAt program v) (IsStateAt program u) =
      same_members 17 (IsStateAt program v) (IsStateAt program u) (λ s. (passed s).0) (λ s. (passed s).1) in
      subst (λ (set : ℕ). Relates set states state) positions (related states (same_with 17 _ (IsStateAt program v) _ known moved))
