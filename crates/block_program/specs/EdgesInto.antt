-- The edges into inner nodes, and chains as lists of edge numbers, the last edge first.
--
--   assigns_at edges k               the assignments of edge k; none where there is no such edge
--   assigns_behind edges path        what the edges of these numbers assign, the last number first
--   IsEdgeInto program v k           v is inner, and edge k is its one edge
--   AreEdgesIntoBelow program n table  the table has, below n, each inner node's one edge, and nothing for every other node
--   AreEdgesInto program table       it does so for all nodes
--   AreOwnClasses n classes          each node below n is its own class
--   IsSimpleTable program merging    the merged nodes are the inner ones, and each node is its own class
use Rattle.std.specs.Prelude.{◌≡◌, ℕ, ◌<◌, List, [], ◌∷◌, ◌++◌, length, slice_index, slice_index_or, MatchOption}
use Rattle.std.specs.Prelude.{Option, None, zero, suc}
use Rattle.affine_prog.specs.declared.Program.{Program}
use Rattle.affine_prog.specs.declared.Edge.{Edge}
use Rattle.affine_prog.specs.declared.Kind.TheVariants.{Do}
use Rattle.affine_prog.specs.declared.Assign.{Assign}
use Rattle.affine_prog.specs.Programs.{edge}
use Rattle.merged_heads.specs.declared.Merging.{Merging}
use Rattle.merged_heads.specs.Merges.{assigns_of}
use Rattle.block_program.specs.InnerNodes.{IsInner}

abbrev pub assigns_at : List Edge → ℕ → List Assign
assigns_at [] k = []
assigns_at (e ∷ edges) zero = assigns_of e.kind
assigns_at (e ∷ edges) (suc k) = assigns_at edges k

abbrev pub assigns_behind : List Edge → List ℕ → List Assign
assigns_behind edges [] = []
assigns_behind edges (k ∷ path) = assigns_behind edges path ++ assigns_at edges k

pub record IsEdgeInto (program : Program) (v k : ℕ) : Type 0 where
  pub inner : IsInner program v
  pub within : k < length program.edges
  pub is : (d : Edge) → slice_index_or program.edges k d ≡ edge inner.from v (Do inner.assigns)

pub record AreEdgesIntoBelow (program : Program) (n : ℕ) (table : List (Option ℕ)) : Type 0 where
  pub long : length table ≡ n
  pub at : (v : ℕ) → v < n → MatchOption (slice_index_or table v None) (IsInner program v → ⊥) (IsEdgeInto program v)

abbrev pub AreEdgesInto : Program → List (Option ℕ) → Type 0
AreEdgesInto program table = AreEdgesIntoBelow program program.nodes table

pub record AreOwnClasses (n : ℕ) (classes : List ℕ) : Type 0 where
  pub long : length classes ≡ n
  pub own : (v : ℕ) → v < n → slice_index classes v ≡ v

pub record IsSimpleTable (program : Program) (merging : Merging) : Type 0 where
  pub edges_into : AreEdgesInto program merging.edges_into
  pub classes : AreOwnClasses program.nodes merging.classes
