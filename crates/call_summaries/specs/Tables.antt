-- Where edges and calls are looked up.
--
--   assigns_of kind          the assignments of an edge of that kind
--   ReturnsTo program u kind the edge is a call of a procedure whose exit is u
--   ReturnFirst program n back   the calls among the first n edges, by the exit of the callee
--   AreTables program prepared out back   what is prepared for each edge; all edges, and all calls
use Rattle.std.specs.Prelude.{◌≡◌, ℕ, ◌<◌, ◌↔◌, List, [], Contains, length, slice_index_or}
use Rattle.affine_prog.specs.declared.Program.{Program}
use Rattle.affine_prog.specs.declared.Kind.{Kind}
use Rattle.affine_prog.specs.declared.Assign.{Assign}
use Rattle.affine_prog.specs.declared.Kind.TheVariants.{Do, Call}
use Rattle.affine_prog.specs.Programs.{exit_of}
use Rattle.affine_prog.specs.Spans.{rows_at}
use Rattle.row_images.specs.Images.{IsPrepared}
use Rattle.row_engine.specs.Tables.{edge_at, AreOut}

abbrev pub assigns_of : Kind → List Assign
assigns_of (Do assigns) = assigns
assigns_of (Call q before) = before

abbrev pub ReturnsTo : Program → ℕ → Kind → Type 0
ReturnsTo program u (Do assigns) = ⊥
ReturnsTo program u (Call q before) = exit_of program q ≡ u

pub record ReturnFirst (program : Program) (n : ℕ) (back : List (List ℕ)) : Type 0 where
  pub each : length back ≡ program.nodes
  pub is : (u k : ℕ) → Contains (slice_index_or back u []) k ↔ ((k < n) × ReturnsTo program u (edge_at program k).kind)

pub record ArePrepared (program : Program) (n : ℕ) (prepared : List (List (List ℕ))) : Type 0 where
  pub each : length prepared ≡ n
  pub is : (k : ℕ) → k < n → IsPrepared (assigns_of (edge_at program k).kind) (rows_at prepared k)

pub record AreTables (program : Program) (prepared : List (List (List ℕ))) (out back : List (List ℕ)) : Type 0 where
  pub images : ArePrepared program (length program.edges) prepared
  pub leave : AreOut program out
  pub return : ReturnFirst program (length program.edges) back
