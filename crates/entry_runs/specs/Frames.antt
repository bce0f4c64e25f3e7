-- The frames of a run: which procedures are open at a moment, the last one opened first. They are a function of the run.
--
--   Frame               an open procedure: its entry, the registers at its entry, and where it is: the machine's pc for the
--                       last frame, the address of its call for one that waits
--   begun p m           the frame of the run's first moment
--   moved f a           the frame, gone on to a
--   ended a frames      the frame before one that has ended goes on at a
--   turned_by flow n f rest, turned t n frames
--                       the frames after a step to the machine n, whose last frame f was at this flow
--   frames_at t p run i the frames at the moment i of a run from p
use Rattle.std.specs.Prelude.{ℕ, zero, suc, List, [], ◌∷◌}
use Rattle.rv_step.specs.Harts.{Hart}
use Rattle.entry_values.specs.declared.flow.Flow.{Flow}
use Rattle.entry_values.specs.declared.flow.Flow.TheVariants.{On, ByTable, CallTo, Foreign, Past, Return, TailOut, Leave, Stuck, Halt}
use Rattle.entry_tables.specs.Tables.{Table, flow_of}

pub record Frame : Type 0 where
  pub procedure : ℕ
  pub registers : List ℕ
  pub at : ℕ

abbrev pub begun : ℕ → Hart → Frame
begun p m = record { procedure = p; registers = m.registers; at = m.pc }

abbrev pub moved : Frame → ℕ → Frame
moved f a = record { procedure = f.procedure; registers = f.registers; at = a }

abbrev pub ended : ℕ → List Frame → List Frame
ended a [] = []
ended a (g ∷ rest) = moved g a ∷ rest

abbrev pub turned_by : Flow → Hart → Frame → List Frame → List Frame
turned_by (On targets s) n f rest = moved f n.pc ∷ rest
turned_by (ByTable targets) n f rest = moved f n.pc ∷ rest
turned_by (CallTo q next) n f rest = begun q n ∷ f ∷ rest
turned_by (Past row next s) n f rest = moved f n.pc ∷ rest
turned_by (Foreign next) n f rest = moved f n.pc ∷ rest
turned_by Return n f rest = ended n.pc rest
turned_by TailOut n f rest = ended n.pc rest
turned_by Leave n f rest = ended n.pc rest
turned_by Stuck n f rest = ended n.pc rest
turned_by Halt n f rest = f ∷ rest

abbrev pub turned : Table → Hart → List Frame → List Frame
turned t n [] = []
turned t n (f ∷ rest) = turned_by (flow_of t f.procedure f.at) n f rest

abbrev pub frames_at : Table → ℕ → (ℕ → Hart) → ℕ → List Frame
frames_at t p run zero = begun p (run 0) ∷ []
frames_at t p run (suc i) = turned t (run (suc i)) (frames_at t p run i)
