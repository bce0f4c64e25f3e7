-- What the test of a table tells.
use Rattle.std.proofs.Common.{◌≡◌, ℕ, ◌+◌, ◌<◌, List, [], ◌∷◌, ◌++◌, length, All, get_or, take, ap, sym, subst, ◌∙◌}
use Rattle.std.specs.Prelude.{Some}
use Rattle.std.proofs.lemmas.List.{take_more}
use Rattle.std.proofs.lemmas.List.Elements.{All-push, All-contains}
use Rattle.affine_prog.specs.declared.Program.{Program}
use Rattle.affine_prog.specs.declared.Edge.{Edge}
use Rattle.affine_prog.specs.declared.Kind.TheVariants.{Do}
use Rattle.affine_prog.specs.declared.Assign.{Assign}
use Rattle.merged_heads.specs.declared.Merging.{Merging}
use Rattle.merged_heads.specs.Merges.{edge_number, class_of, IsClassEdge, Carries, assigns, IsEdgeMerged, IsNodeMerged, IsLong, AreHeads, IsMergedTable}

pub class_edge_carries : (program : Program) (table : Merging) (e : Edge) (r k class : ℕ) (list own : List Assign) → edge_number table r ≡ Some k → class_of table e.from ≡ class → own ≡ list → e.kind ≡ Do list
    → IsClassEdge program table k r own class → Carries program table e r
class_edge_carries program table e r k class list own entry from same kind c =
    assigns c.from own (record { number = k; entry = entry; within = c.within; is = c.is }) (kind ∙ ap Do (sym same)) (from ∙ c.same)

pub edges_more : (program : Program) (table : Merging) (i : ℕ) (e : Edge) → i < length program.edges → e ≡ get_or program.edges i e → IsEdgeMerged program table e
    → All (IsEdgeMerged program table) (take i program.edges) → All (IsEdgeMerged program table) (take (i + 1) program.edges)
edges_more program table i e within is one all =
    subst (All (IsEdgeMerged program table)) (ap (λ (x : Edge). take i program.edges ++ x ∷ []) is ∙ sym (take_more program.edges i e within))
    (All-push (IsEdgeMerged program table) (take i program.edges) e all one)

pub told : (program : Program) (table : Merging) → IsLong program table → ((v : ℕ) → v < program.nodes → IsNodeMerged program table v) → All (IsEdgeMerged program table) program.edges
    → ((p : ℕ) → p < length program.procs → AreHeads program table p) → IsMergedTable program table
told program table long nodes edges ends = record {
  long = long;
  classes = λ v below. let n = nodes v below in n.classed;
  nodes = λ v below. let n = nodes v below in n.at;
  edges = λ e contains. All-contains (IsEdgeMerged program table) program.edges e edges contains;
  ends = ends;
}
