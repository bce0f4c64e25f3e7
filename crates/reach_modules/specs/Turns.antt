-- States that are pushed along the moves of a program.
--
--   MakesOf program u w v x      a move from node u to node w makes the row x of the row v
--   IsReady program summaries places out
--                                the program is well-formed, and these are its tables
--   Reaches program old new u rows result before after
--                                the rows of node u were pushed along the moves from it, with this answer
use Rattle.std.specs.Prelude.{ℕ, List, Result}
use Rattle.affine_prog.specs.declared.Program.{Program}
use Rattle.affine_prog.specs.Programs.{IsWellFormed}
use Rattle.affine_prog.specs.Spans.{IsStateAt}
use Rattle.row_images.specs.States.{Makes}
use Rattle.row_engine.specs.States.{State}
use Rattle.row_engine.specs.Tables.{AreOut}
use Rattle.row_engine.specs.Turns.{NoJoins, Turns}
use Rattle.reach_modules.specs.Moves.{Moves}
use Rattle.reach_modules.specs.Tables.{ArePlaces}

abbrev pub MakesOf : Program → ℕ → ℕ → List ℕ → List ℕ → Type 0
MakesOf program u w v x = Makes (Moves program u w) v x

pub record IsReady (program : Program) (summaries : List (List (List ℕ))) (places : List ℕ) (out : List (List ℕ)) : Type 0 where
  pub formed : IsWellFormed program
  pub places_are : ArePlaces program summaries places
  pub out_are : AreOut program out

abbrev pub Reaches : {X E : Type 0} → Program → State → State → ℕ → List (List ℕ) → Result X E → ℕ → ℕ → Type 0
Reaches program old new u rows result before after = Turns 17 (MakesOf program) NoJoins (IsStateAt program) old new u rows result before after
