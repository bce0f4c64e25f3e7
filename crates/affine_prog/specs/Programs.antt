-- Programs over affine assignments. Procedures and nodes go by number. A set of positions is a number whose bit i is 1
-- for position i.
--
--   edge u v kind             the edge from node u to node v of that kind
--   entry_of program p        the entry of procedure p
--   exit_of program p         the exit of procedure p
--   slots_of program p        the set of the slots of procedure p
--   owner_of program u        the procedure that owns node u
--   visible_in program p      the set of the positions that have a name in procedure p: the registers, and its slots
--   position_sets program     the set of registers, and the set of slots of each procedure
--   AreDisjoint s t           no position is in both sets
--   IsAssignIn s assign       the position that is assigned is in s, and the row that it reads by is 0 outside s and
--                             the constant's position
--   IsKindIn program p kind   all that is assigned is visible in p, and the callee is a procedure
--   OwnsItsEnds program p     the entry and the exit of p are nodes that p owns
--   IsEdgeOf program e        e goes between two nodes of one procedure, and its kind is in that procedure
--   IsWellFormed program      the program is well formed
use Rattle.std.specs.Prelude.{◌≡◌, ℕ, ◌<◌, ◌≤◌, ◌^◌, List, ◌∷◌, length, map, slice_index, All, AllPairs, bit_and, bit_or, IsTrue}
use Rattle.row_modules.specs.Positions.{has, with_constant, IsZeroOutside}
use Rattle.affine_prog.specs.declared.Program.{Program}
use Rattle.affine_prog.specs.declared.Edge.{Edge}
use Rattle.affine_prog.specs.declared.Kind.{Kind}
use Rattle.affine_prog.specs.declared.Kind.TheVariants.{Do, Call}
use Rattle.affine_prog.specs.declared.Assign.{Assign}
use Rattle.affine_prog.specs.declared.Assign.TheVariants.{Affine, Any}

abbrev pub edge : ℕ → ℕ → Kind → Edge
edge u v kind = record { from = u; to = v; kind = kind }

abbrev pub entry_of : Program → ℕ → ℕ
entry_of program p = slice_index (map (λ proc. proc.entry) program.procs) p

abbrev pub exit_of : Program → ℕ → ℕ
exit_of program p = slice_index (map (λ proc. proc.exit) program.procs) p

abbrev pub slots_of : Program → ℕ → ℕ
slots_of program p = slice_index (map (λ proc. proc.slots) program.procs) p

abbrev pub owner_of : Program → ℕ → ℕ
owner_of program u = slice_index program.owners u

abbrev pub visible_in : Program → ℕ → ℕ
visible_in program p = bit_or program.registers (slots_of program p)

abbrev pub position_sets : Program → List ℕ
position_sets program = program.registers ∷ map (λ proc. proc.slots) program.procs

abbrev pub AreDisjoint : ℕ → ℕ → Type 0
AreDisjoint s t = bit_and s t ≡ 0

abbrev pub IsAssignIn : ℕ → Assign → Type 0
IsAssignIn s (Affine i row) = IsTrue (has s i) × IsZeroOutside (with_constant s) row
IsAssignIn s (Any i) = IsTrue (has s i)

pub record OwnsItsEnds (program : Program) (p : ℕ) : Type 0 where
  pub entry : entry_of program p < program.nodes
  pub exit : exit_of program p < program.nodes
  pub entry_owner : owner_of program (entry_of program p) ≡ p
  pub exit_owner : owner_of program (exit_of program p) ≡ p

abbrev pub IsKindIn : Program → ℕ → Kind → Type 0
IsKindIn program p (Do assigns) = All (IsAssignIn (visible_in program p)) assigns
IsKindIn program p (Call callee before) = (callee < length program.procs) × All (IsAssignIn (visible_in program p)) before

pub record IsEdgeOf (program : Program) (e : Edge) : Type 0 where
  pub from : e.from < program.nodes
  pub to : e.to < program.nodes
  pub one_owner : owner_of program e.from ≡ owner_of program e.to
  pub kind : IsKindIn program (owner_of program e.from) e.kind

pub record IsWellFormed (program : Program) : Type 0 where
  pub width : program.width ≤ 16
  pub below_width : All (λ s. s < 2 ^ program.width) (position_sets program)
  pub disjoint : AllPairs AreDisjoint (position_sets program)
  pub owners : length program.owners ≡ program.nodes
  pub owned : All (λ p. p < length program.procs) program.owners
  pub start : program.start < length program.procs
  pub procs : (p : ℕ) → p < length program.procs → OwnsItsEnds program p
  pub few_edges : length program.edges < 2 ^ 32
  pub edges : All (IsEdgeOf program) program.edges
