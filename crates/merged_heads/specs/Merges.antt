-- Merged nodes: one edge into each, from its parent, stands for all edges into it.
--
--   edge_number table v            the number of the edge from v's parent; nothing where v is a head
--   class_of table v               the class of v: the node that stands for all nodes to which the same is brought
--   assigns_of kind                the assignments of a kind
--   IsParent program table v u assigns   v is merged, and its edge goes from u by these assignments
--   Carries program table e r      e brings to its end what comes to r: it passes on the class r as it is, or assigns what the edge
--                                  into r assigns, to the class of r's parent
--   IsClassed program table v      v's class is a node, and v or a smaller one
--   IsLong program table           the table tells something of each node
--   IsClassEdge program table k r list class   edge k goes to r by this list, from a node of this class
--   IsNodeMerged program table v   what the table must say of a node
--   IsEdgeMerged program table e   e goes to a head, or carries the class of its end
--   IsParentEdge program v k       edge k goes to v from a smaller node, and makes assignments
--   IsMergedTable program table    the table tells of each node, each merged node has an edge from a smaller node, each head is its own class, all edges
--                                  into a merged node carry its class, and entries and exits are heads
use Rattle.std.specs.Prelude.{◌≡◌, ℕ, ◌<◌, ◌≤◌, List, [], Contains, length, slice_index, slice_index_or, ◌⊎◌, Option, None, Some, MatchOption}
use Rattle.affine_prog.specs.declared.Program.{Program}
use Rattle.affine_prog.specs.declared.Edge.{Edge}
use Rattle.affine_prog.specs.declared.Kind.{Kind}
use Rattle.affine_prog.specs.declared.Kind.TheVariants.{Do, Call}
use Rattle.affine_prog.specs.declared.Assign.{Assign}
use Rattle.affine_prog.specs.Programs.{edge, entry_of, exit_of}
use Rattle.merged_heads.specs.declared.Merging.{Merging}

abbrev pub edge_number : Merging → ℕ → Option ℕ
edge_number table v = slice_index_or table.edges_into v None

abbrev pub class_of : Merging → ℕ → ℕ
class_of table v = slice_index table.classes v

abbrev pub assigns_of : Kind → List Assign
assigns_of (Do assigns) = assigns
assigns_of (Call callee before) = before

pub record IsParent (program : Program) (table : Merging) (v u : ℕ) (assigns : List Assign) : Type 0 where
  pub number : ℕ
  pub entry : edge_number table v ≡ Some number
  pub within : number < length program.edges
  pub is : (d : Edge) → slice_index_or program.edges number d ≡ edge u v (Do assigns)

pub data Carries (program : Program) (table : Merging) (e : Edge) (r : ℕ) : Type 0 where
  passes : e.kind ≡ Do [] → class_of table e.from ≡ r → Carries program table e r
  assigns : (u : ℕ) (list : List Assign) → IsParent program table r u list → e.kind ≡ Do list → class_of table e.from ≡ class_of table u → Carries program table e r

pub record IsClassed (program : Program) (table : Merging) (v : ℕ) : Type 0 where
  pub node : class_of table v < program.nodes
  pub first : class_of table v ≤ v

pub record IsParentEdge (program : Program) (v k : ℕ) : Type 0 where
  pub from : ℕ
  pub list : List Assign
  pub within : k < length program.edges
  pub is : (d : Edge) → slice_index_or program.edges k d ≡ edge from v (Do list)
  pub below : from < v

pub record AreHeads (program : Program) (table : Merging) (p : ℕ) : Type 0 where
  pub entry : edge_number table (entry_of program p) ≡ None
  pub exit : edge_number table (exit_of program p) ≡ None

pub record IsLong (program : Program) (table : Merging) : Type 0 where
  pub edges_into : length table.edges_into ≡ program.nodes
  pub classes : length table.classes ≡ program.nodes

pub record IsClassEdge (program : Program) (table : Merging) (k r : ℕ) (list : List Assign) (class : ℕ) : Type 0 where
  pub from : ℕ
  pub within : k < length program.edges
  pub is : (d : Edge) → slice_index_or program.edges k d ≡ edge from r (Do list)
  pub same : class ≡ class_of table from

pub record IsNodeMerged (program : Program) (table : Merging) (v : ℕ) : Type 0 where
  pub classed : IsClassed program table v
  pub at : MatchOption (edge_number table v) (class_of table v ≡ v) (IsParentEdge program v)

abbrev pub IsEdgeMerged : Program → Merging → Edge → Type 0
IsEdgeMerged program table e = (edge_number table e.to ≡ None) ⊎ Carries program table e (class_of table e.to)

pub record IsMergedTable (program : Program) (table : Merging) : Type 0 where
  pub long : IsLong program table
  pub classes : (v : ℕ) → v < program.nodes → IsClassed program table v
  pub nodes : (v : ℕ) → v < program.nodes → MatchOption (edge_number table v) (class_of table v ≡ v) (IsParentEdge program v)
  pub edges : (e : Edge) → Contains program.edges e → IsEdgeMerged program table e
  pub ends : (p : ℕ) → p < length program.procs → AreHeads program table p
