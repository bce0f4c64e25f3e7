-- Inner nodes: the simple notion of a node that needs no basis, by which heads are counted.
--
--   edges_into program v         the edges that go to node v
--   edges_from program u         the edges that leave node u
--   IsEnd program v              v is the entry or the exit of a procedure
--   IsInner program v            one edge goes to v, it makes assignments and calls nothing, it is the one edge that leaves
--                                its node, that node has a smaller number, and v is no entry and no exit
--   IsHead program v             v is a node that isn't inner
--   NumbersHeads program heads   heads is the list of these heads, ascending: head number i is slice_index heads i
use Rattle.std.specs.Prelude.{◌≡◌, ℕ, ◌<◌, ◌↔◌, List, [], ◌∷◌, length, filter, Contains, ◌==◌, ◌⊎◌}
use Rattle.std.specs.List.Sorted.{IsStrictlyIncreasing}
use Rattle.affine_prog.specs.declared.Program.{Program}
use Rattle.affine_prog.specs.declared.Edge.{Edge}
use Rattle.affine_prog.specs.declared.Kind.TheVariants.{Do}
use Rattle.affine_prog.specs.declared.Assign.{Assign}
use Rattle.affine_prog.specs.Programs.{edge, entry_of, exit_of}

abbrev pub edges_into : Program → ℕ → List Edge
edges_into program v = filter (λ e. e.to == v) program.edges

abbrev pub edges_from : Program → ℕ → List Edge
edges_from program u = filter (λ e. e.from == u) program.edges

pub record IsEnd (program : Program) (v : ℕ) : Type 0 where
  pub proc : ℕ
  pub within : proc < length program.procs
  pub either : (entry_of program proc ≡ v) ⊎ (exit_of program proc ≡ v)

pub record IsInner (program : Program) (v : ℕ) : Type 0 where
  pub from : ℕ
  pub assigns : List Assign
  pub into : edges_into program v ≡ edge from v (Do assigns) ∷ []
  pub out : edges_from program from ≡ edge from v (Do assigns) ∷ []
  pub behind : from < v
  pub no_end : IsEnd program v → ⊥

pub record IsHead (program : Program) (v : ℕ) : Type 0 where
  pub node : v < program.nodes
  pub not_inner : IsInner program v → ⊥

pub record NumbersHeads (program : Program) (heads : List ℕ) : Type 0 where
  pub order : IsStrictlyIncreasing heads
  pub all : (u : ℕ) → Contains heads u ↔ IsHead program u
