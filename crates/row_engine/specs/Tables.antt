-- Where the edges that leave a node are looked up.
--
--   edge_at program k          edge k
--   LeaveFirst program n out   for each node, the numbers of those of the first n edges that leave it
--   AreOut program out         for each node, the numbers of the edges that leave it
use Rattle.std.specs.Prelude.{◌≡◌, ℕ, ◌<◌, ◌↔◌, List, [], Contains, length, slice_index_or}
use Rattle.affine_prog.specs.declared.Program.{Program}
use Rattle.affine_prog.specs.declared.Edge.{Edge}
use Rattle.affine_prog.specs.declared.Kind.TheVariants.{Do}
use Rattle.affine_prog.specs.Programs.{edge}

abbrev pub edge_at : Program → ℕ → Edge
edge_at program k = slice_index_or program.edges k (edge 0 0 (Do []))

pub record LeaveFirst (program : Program) (n : ℕ) (out : List (List ℕ)) : Type 0 where
  pub each : length out ≡ program.nodes
  pub is : (u k : ℕ) → Contains (slice_index_or out u []) k ↔ ((k < n) × ((edge_at program k).from ≡ u))

abbrev pub AreOut : Program → List (List ℕ) → Type 0
AreOut program out = LeaveFirst program (length program.edges) out
