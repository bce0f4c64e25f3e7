-- Walking back along a chain.
use Rattle.std.proofs.Common.{◌≡◌, ℕ, zero, suc, ◌+◌, ◌<◌, List, [], ◌∷◌, ◌++◌, length, All, get_or, refl, ap, sym, subst, ◌∙◌, arith}
use Rattle.std.proofs.Math.Seq.{drop-cons}
use Rattle.std.specs.Prelude.{drop, Option, None, Some}
use Rattle.std.proofs.lemmas.List.{append-nil, append_assoc}
use Rattle.std.proofs.lemmas.List.Elements.{All-nil, All-push}
use Rattle.affine_prog.specs.declared.Program.{Program}
use Rattle.affine_prog.specs.declared.Edge.{Edge}
use Rattle.affine_prog.specs.declared.Kind.TheVariants.{Do}
use Rattle.affine_prog.specs.declared.Assign.{Assign}
use Rattle.affine_prog.specs.Programs.{edge}
use Rattle.merged_heads.specs.declared.Merging.{Merging}
use Rattle.merged_heads.specs.Merges.{assigns_of, edge_number, IsParentEdge, IsParent}
use Rattle.merged_heads.specs.Chains.{Chain, here}
use Rattle.merged_heads.proofs.Lemmas.{on_from_parent}
use Rattle.block_program.specs.EdgesInto.{assigns_at, assigns_behind}

-- one more edge at the end of the list is one in front of the chain
pub behind_push : (edges : List Edge) (path : List ℕ) (k : ℕ) → assigns_behind edges (path ++ k ∷ []) ≡ assigns_at edges k ++ assigns_behind edges path
behind_push edges [] k = sym (append-nil (assigns_at edges k))
behind_push edges (j ∷ path) k = ap (λ (xs : List Assign). xs ++ assigns_at edges j) (behind_push edges path k) ∙ append_assoc (assigns_at edges k) (assigns_behind edges path) (assigns_at edges j)

assigns_at_place : (edges : List Edge) (k : ℕ) (d : Edge) → k < length edges → assigns_at edges k ≡ assigns_of (get_or edges k d).kind
assigns_at_place [] k d within = absurd (omega arith)
assigns_at_place (e ∷ edges) zero d within = refl
assigns_at_place (e ∷ edges) (suc k) d within = assigns_at_place edges k d (omega arith)

-- what has been walked: each chain to where the walk is goes on to the node where it began
pub record Walked (program : Program) (merging : Merging) (node at : ℕ) (path : List ℕ) : Type 0 where
  pub below : at < program.nodes
  pub numbers : All (λ k. k < length program.edges) path
  pub goes_on : (h : ℕ) (chain : List Assign) → Chain program merging h at chain → Chain program merging h node (chain ++ assigns_behind program.edges path)

pub walked_none : (program : Program) (merging : Merging) (node : ℕ) → node < program.nodes → Walked program merging node node []
walked_none program merging node below = record {
  below = below;
  numbers = All-nil (λ k. k < length program.edges);
  goes_on = λ h chain c. subst (Chain program merging h node) (sym (append-nil chain)) c;
}

pub walked_more : (program : Program) (merging : Merging) (node v k u : ℕ) (path : List ℕ) → edge_number merging v ≡ Some k → IsParentEdge program v k
    → ((d : Edge) → u ≡ (get_or program.edges k d).from) → u < program.nodes → Walked program merging node v path → Walked program merging node u (path ++ k ∷ [])
walked_more program merging node v k u path entry e from below w = record {
  below = below;
  numbers = All-push (λ i. i < length program.edges) path k w.numbers e.within;
  goes_on = λ h chain c.
      let e0 = edge e.from v (Do e.list) in
      let at_u : e.from ≡ u = sym (from e0 ∙ ap (λ (x : Edge). x.from) (e.is e0)) in
      let parent : IsParent program merging v e.from e.list = record { number = k; entry = entry; within = e.within; is = e.is } in
      let mine : assigns_at program.edges k ≡ e.list = assigns_at_place program.edges k e0 e.within ∙ ap (λ (x : Edge). assigns_of x.kind) (e.is e0) in
      let longer = w.goes_on h (chain ++ e.list) (on_from_parent program merging h v u e.list chain (subst (λ (x : ℕ). IsParent program merging v x e.list) at_u parent) c) in
      subst (Chain program merging h node)
      (append_assoc chain e.list (assigns_behind program.edges path)
      ∙ ap (λ (xs : List Assign). chain ++ (xs ++ assigns_behind program.edges path)) (sym mine)
      ∙ ap (λ (xs : List Assign). chain ++ xs) (sym (behind_push program.edges path k))) longer;
}

pub walked_all : (program : Program) (merging : Merging) (node at : ℕ) (path : List ℕ) → edge_number merging at ≡ None → Walked program merging node at path
    → Chain program merging at node (assigns_behind program.edges path)
walked_all program merging node at path none w = w.goes_on at [] (here at at [] (record { node = w.below; not_merged = none }) refl refl)

pub none_of_all : (o : Option ℕ) → ((k : ℕ) → o ≡ Some k → ⊥) → o ≡ None
none_of_all None other = refl
none_of_all (Some k) other = absurd (other k refl)

-- one more edge, from the end of the list on
pub behind_drop : (edges : List Edge) (path : List ℕ) (i : ℕ) (d : Edge) → i < length path → get_or path i 0 < length edges
    → assigns_behind edges (drop (i + 1) path) ++ assigns_of (get_or edges (get_or path i 0) d).kind ≡ assigns_behind edges (drop i path)
behind_drop edges path i d inside within =
    let e : i + 1 ≡ suc i = omega arith in
    ap (λ (n : ℕ). assigns_behind edges (drop n path) ++ assigns_of (get_or edges (get_or path i 0) d).kind) e
    ∙ ap (λ (xs : List Assign). assigns_behind edges (drop (suc i) path) ++ xs) (sym (assigns_at_place edges (get_or path i 0) d within))
    ∙ ap (assigns_behind edges) (sym (drop-cons path i 0 inside))
