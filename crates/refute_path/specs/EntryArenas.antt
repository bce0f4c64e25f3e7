-- Entries, with a basis for each procedure of the module that the states of its entries span.
--
--   IsEntryArena program items entries bases   the entries are made, and each procedure's basis spans their states there
--   entry_measure bases entries n          twice what the modules can still grow, and the entries that are still to be pushed
--   Follows program items entries new bases new_bases
--                                          entries were added at the end, each for a gain in length, and it is an arena still
--   Admits program items entries new bases new_bases A   so it is, and each state of the set A is spanned at its procedure
--   IsEntryAt entries k p s                entry k is the state s at procedure p
--   IsJust p s q t                         t at q is s at p
--   IsStartAt program raised p s           s at p is the start in which this register is 1, or none
--   IsStartBelow program n p s             it is one in which a register below n is 1, or none
--   EntersAlong program items entries outer level e q inner before   edge e makes these assignments and calls q, from the node of item
--                                          `level`, and inner is what that item makes of entry `outer`, at its procedure
--   IsChosen p before inner n q s          s at q = p is what the list makes of inner under a choice that raises one of the first n
--                                          words, or none
--   IsEntering program items entries outer level e q s   it is what the call along edge e makes of this entry and item so
--   IsEnteringAt, IsEnteringFrom           so it is along one of the first n edges, or from one of the first n items
--   AreEntered program items entries n     starts, and what calls make of the first n entries, are spanned
use Rattle.std.specs.Prelude.{◌≡◌, ℕ, ◌+◌, ◌-◌, ◌*◌, ◌<◌, ◌≤◌, List, All, Contains, Option, Some, length, slice_get}
use Rattle.row_modules.specs.Modules.{SameModule}
use Rattle.row_modules.specs.Bases.{IsLeadingBasis}
use Rattle.map_modules.specs.Matrices.{apply}
use Rattle.affine_prog.specs.declared.Program.{Program}
use Rattle.affine_prog.specs.declared.Assign.{Assign}
use Rattle.affine_prog.specs.declared.Kind.TheVariants.{Call}
use Rattle.affine_prog.specs.Programs.{edge, owner_of}
use Rattle.affine_prog.specs.Assignments.{unknown_count, matrix_of}
use Rattle.affine_prog.specs.Spans.{rows_at}
use Rattle.refute_path.specs.declared.Placed.{Placed}
use Rattle.refute_path.specs.declared.Came.{Came}
use Rattle.refute_path.specs.declared.Entry.{Entry}
use Rattle.refute_path.specs.Tags.{words_by, IsBelow, At}
use Rattle.refute_path.specs.Arenas.{total, IsItem}
use Rattle.refute_path.specs.Entries.{entered, IsStartBy, AreCame, Enters, SpannedAt}

pub record IsEntryArena (program : Program) (items : List Placed) (entries : List Entry) (bases : List (List (List ℕ))) : Type 0 where
  pub procs : length bases ≡ length program.procs
  pub leading : All (IsLeadingBasis 17) bases
  pub came : AreCame program items entries
  pub same : (p : ℕ) → SameModule 17 (Contains (rows_at bases p)) (Enters entries p)

abbrev pub entry_measure : List (List (List ℕ)) → List Entry → ℕ → ℕ
entry_measure bases entries n = 2 * (1088 * length bases - total bases) + (length entries - n)

pub record Follows (program : Program) (items : List Placed) (entries new : List Entry) (bases new_bases : List (List (List ℕ))) : Type 0 where
  pub kept : (k : ℕ) (x : Entry) → slice_get entries k ≡ Some x → slice_get new k ≡ Some x
  pub arena : IsEntryArena program items new new_bases
  pub fewer : total bases + length new ≤ total new_bases + length entries

pub record Admits (program : Program) (items : List Placed) (entries new : List Entry) (bases new_bases : List (List (List ℕ))) (A : ℕ → List ℕ → Type 0) : Type 0 where
  pub follows : Follows program items entries new bases new_bases
  pub taken : (p : ℕ) (s : List ℕ) → A p s → SpannedAt new p s

abbrev pub IsEntryAt : List Entry → ℕ → ℕ → List ℕ → Type 0
IsEntryAt entries k p s = (came : Came) × (slice_get entries k ≡ Some (entered p s came))

abbrev pub IsJust : ℕ → List ℕ → ℕ → List ℕ → Type 0
IsJust p s q t = (q ≡ p) × (t ≡ s)

abbrev pub IsStartAt : Program → Option ℕ → ℕ → List ℕ → Type 0
IsStartAt program raised p s = (p ≡ program.start) × IsStartBy program raised s

abbrev pub IsStartBelow : Program → ℕ → ℕ → List ℕ → Type 0
IsStartBelow program n p s = (raised : Option ℕ) × IsBelow n raised × IsStartAt program raised p s

pub record EntersAlong (program : Program) (items : List Placed) (entries : List Entry) (outer level e q : ℕ) (inner : List ℕ) (before : List Assign) : Type 0 where
  pub proc : ℕ
  pub state : List ℕ
  pub is_outer : IsEntryAt entries outer proc state
  pub node : ℕ
  pub own : List ℕ
  pub is_level : IsItem items level node own
  pub owned : owner_of program node ≡ proc
  pub to : ℕ
  pub along : slice_get program.edges e ≡ Some (edge node to (Call q before))
  pub is : inner ≡ apply own state

abbrev pub IsChosen : ℕ → List Assign → List ℕ → ℕ → ℕ → List ℕ → Type 0
IsChosen p before inner n q s =
    (raised : Option ℕ) × IsBelow n raised × IsJust p (apply (matrix_of before (words_by (unknown_count before) raised)) inner) q s

pub record IsEntering (program : Program) (items : List Placed) (entries : List Entry) (outer level e q : ℕ) (s : List ℕ) : Type 0 where
  pub node : ℕ
  pub own : List ℕ
  pub is_level : IsItem items level node own
  pub state : List ℕ
  pub is_outer : IsEntryAt entries outer (owner_of program node) state
  pub to : ℕ
  pub assigns : List Assign
  pub along : slice_get program.edges e ≡ Some (edge node to (Call q assigns))
  pub raised : Option ℕ
  pub below : IsBelow (unknown_count assigns) raised
  pub is : s ≡ apply (matrix_of assigns (words_by (unknown_count assigns) raised)) (apply own state)

abbrev pub IsEnteringAt : Program → List Placed → List Entry → ℕ → ℕ → ℕ → ℕ → List ℕ → Type 0
IsEnteringAt program items entries outer level n q s = (e : ℕ) × (e < n) × IsEntering program items entries outer level e q s

abbrev pub IsEnteringFrom : Program → List Placed → List Entry → ℕ → ℕ → ℕ → List ℕ → Type 0
IsEnteringFrom program items entries outer n q s = (level : ℕ) × (level < n) × IsEnteringAt program items entries outer level (length program.edges) q s

pub record AreEntered (program : Program) (items : List Placed) (entries : List Entry) (n : ℕ) : Type 0 where
  pub starts : (raised : Option ℕ) (s : List ℕ) → IsStartBy program raised s → SpannedAt entries program.start s
  pub calls : (k q u v : ℕ) (assigns : List Assign) (raised : Option ℕ) (m s : List ℕ) → k < n → Contains program.edges (edge u v (Call q assigns))
      → IsBelow (unknown_count assigns) raised → At items u m → IsEntryAt entries k (owner_of program u) s
      → SpannedAt entries q (apply (matrix_of assigns (words_by (unknown_count assigns) raised)) (apply m s))
