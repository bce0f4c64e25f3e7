-- What pushing a row along edges does.
--
--   call_of program u before callee m
--                                 the map of a call from node u: m, the assignments before it, and the callee's map
--   MakesOf program u w m x       an edge from node u to node w that assigns makes x of m, under some choice
--   JoinsOf program a b w m n x   an edge from node a to node w that calls a procedure with the exit b makes x of m at a, and of
--                                 the callee's map n, under some choice
--   Forward program e old new m   the module of the edge's end has what the edge makes of m under each choice; for a call, of
--                                 m and each member of the old module at the callee's exit
--   Back program e old new m      it has what the call e makes of each member of the old module at the call, and of m as the
--                                 callee's map
--   Along program pushed places   this holds of each edge at one of the places
--   PushesRow program old new u m it holds forward of all edges from u, and back of all calls that return to u
--   Summarizes program old new u rows result before after
--                                 the rows of node u were pushed along all these, with this answer
use Rattle.std.specs.Prelude.{◌≡◌, ℕ, List, Contains, Result}
use Rattle.affine_prog.specs.declared.Program.{Program}
use Rattle.affine_prog.specs.declared.Edge.{Edge}
use Rattle.affine_prog.specs.declared.Kind.{Kind}
use Rattle.affine_prog.specs.declared.Kind.TheVariants.{Do, Call}
use Rattle.affine_prog.specs.declared.Assign.{Assign}
use Rattle.affine_prog.specs.Programs.{edge, exit_of, slots_of, owner_of}
use Rattle.affine_prog.specs.Assignments.{Choice, matrix_of}
use Rattle.affine_prog.specs.LevelPaths.{step_map}
use Rattle.affine_prog.specs.Laws.{linear_call_map}
use Rattle.affine_prog.specs.Spans.{IsMapTo}
use Rattle.row_engine.specs.States.{State, InModule}
use Rattle.row_engine.specs.Tables.{edge_at}
use Rattle.row_engine.specs.Turns.{Turns}
use Rattle.call_summaries.specs.Tables.{ReturnsTo}

abbrev pub call_of : Program → ℕ → List ℕ → List ℕ → List ℕ → List ℕ
call_of program u before callee m = linear_call_map program.registers (slots_of program (owner_of program u)) before callee m

pub record MakesOf (program : Program) (u w : ℕ) (m x : List ℕ) : Type 0 where
  pub assigns : List Assign
  pub words : List ℕ
  pub in_edges : Contains program.edges (edge u w (Do assigns))
  pub choice : Choice assigns words
  pub is : x ≡ step_map assigns words m

pub record JoinsOf (program : Program) (a b w : ℕ) (m n x : List ℕ) : Type 0 where
  pub callee : ℕ
  pub before : List Assign
  pub words : List ℕ
  pub in_edges : Contains program.edges (edge a w (Call callee before))
  pub exit : exit_of program callee ≡ b
  pub choice : Choice before words
  pub is : x ≡ call_of program a (matrix_of before words) n m

abbrev pub ForwardBy : Program → ℕ → ℕ → Kind → State → State → List ℕ → Type 0
ForwardBy program u v (Do assigns) old new m = (words : List ℕ) → Choice assigns words → InModule 289 new v (step_map assigns words m)
ForwardBy program u v (Call q before) old new m =
    (words callee : List ℕ) → Choice before words → InModule 289 old (exit_of program q) callee → InModule 289 new v (call_of program u (matrix_of before words) callee m)

abbrev pub Forward : Program → Edge → State → State → List ℕ → Type 0
Forward program e old new m = ForwardBy program e.from e.to e.kind old new m

abbrev pub BackBy : Program → ℕ → ℕ → Kind → State → State → List ℕ → Type 0
BackBy program u v (Do assigns) old new m = Unit {0}
BackBy program u v (Call q before) old new m =
    (words caller : List ℕ) → Choice before words → InModule 289 old u caller → InModule 289 new v (call_of program u (matrix_of before words) m caller)

abbrev pub Back : Program → Edge → State → State → List ℕ → Type 0
Back program e old new m = BackBy program e.from e.to e.kind old new m

abbrev pub Along : Program → (Edge → Type 0) → List ℕ → Type 0
Along program pushed places = (k : ℕ) → Contains places k → pushed (edge_at program k)

pub record PushesRow (program : Program) (old new : State) (u : ℕ) (m : List ℕ) : Type 0 where
  pub forward : (e : Edge) → Contains program.edges e → e.from ≡ u → Forward program e old new m
  pub back : (e : Edge) → Contains program.edges e → ReturnsTo program u e.kind → Back program e old new m

abbrev pub Summarizes : {X E : Type 0} → Program → State → State → ℕ → List (List ℕ) → Result X E → ℕ → ℕ → Type 0
Summarizes program old new u rows result before after = Turns 289 (MakesOf program) (JoinsOf program) (IsMapTo program) old new u rows result before after
