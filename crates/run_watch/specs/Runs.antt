-- Runs as watches see them.
--
--   Scene                        what stays the same: the points of the code, their offsets, the report, and the
--                                instructions
--   scene_of points offsets report code   the same, of a report
--   Spot                         where a run is: the machine and the activations
--   Sight, sight_of moment told  a record with its moment
--   pc_of a, steps_of a          the address where a run is, and how many steps were made
--   point_of told                the point of which it is told
--   is_told_of p told            it is told of the point p
--   told_at report p             what a report tells of the point p, if it has it
--   is_unreached told            it calls the point unreached
--   rows_in told                 the rows that it has there, none at a point that it doesn't have
--   is_return flow, IsCall flow  the flow is a return, a call
--   IsAtPoint scene a i c        the run is at point i, whose code is c
--   IsOffPoints scene a          the run is at no point
--   Describes scene a i c m      m is the moment of the run at that point
--   IsClosingSight               the closing record there, with its moment
--   most_activations             there may be no more activations
--   has_word a c                 the word in memory at pc is that of c
--   CanStep scene limit a i c    the run is at a point; fewer steps were made than given; the word in memory is the file's;
--                                and it isn't a call with as many activations as there may be
--   MakesStep scene limit a i c sight machine   the run can make a step at point i, nothing stops the machine there, and it goes
--                                to this one, with what is seen of it
--   Goes scene limit a sight b   a step from a to b, with what is seen of it: the machine makes it, and the activations
--                                change by the flow
--   run_stop why                 how a run stops where the machine stops so, if it is a stop of runs
--   Ends scene limit a seen steps stop   the run stops at a, after this is seen and so many steps were made
--   Turn scene limit a b seen stop   a turn of the run: it goes on from a to b, or stops at a, where as many steps were made as
--                                at b
--   Reaches scene limit a seen b the run goes from a to b by steps of which this is seen
--   IsWatched scene limit a seen steps stop   the run goes on from a until it stops
--   Begins image regs a          a is where a run of the image starts: loaded, with 0 elsewhere in memory and these registers,
--                                no step made, and the activation of the entry procedure alone
--   instruction_of c             the instruction at a point
--   AreInstructionsOf points code   the instructions at the points, by their different addresses, ascending
--   IsPut code at now            at was put among code, unless there is an instruction of its address
--   IsRunOf image points offsets report regs limit seen steps stop   the one run of the image from these registers, of at
--                                most so many steps: what is seen of it, the steps made and the stop
--   verdict kind state seen      the state of a watch after these records
--   IsVerdict kind state seen found   for the kinds 1 to 4 this is the verdict of the watch
--   HasSeen                      the watch of this kind and state saw these, and then has this kind and state
use Rattle.std.specs.Prelude.{◌≡◌, ◌≢◌, ◌⊎◌, ℕ, ◌+◌, ◌<◌, ◌≤◌, Bool, true, false, ◌&&◌, ◌==◌, List, [], ◌∷◌, ◌++◌, length, map, find, All, AllPairs, Contains, slice_get, slice_set, option_map, Option, None, Some}
use Rattle.elf_image.specs.Images.{loaded}
use Rattle.elf_image.specs.declared.image.Image.{Image}
use Rattle.flow_points.specs.Walks.{point}
use Rattle.flow_points.specs.PointLists.{FlowPoints, places_of}
use Rattle.flow_points.specs.declared.code_points.Point.{Point}
use Rattle.flow_points.specs.declared.code_points.CodePoint.{CodePoint}
use Rattle.flow_points.specs.declared.code_points.Flow.{Flow}
use Rattle.flow_points.specs.declared.code_points.Flow.TheVariants.{Call, Return}
use Rattle.affine_lift.specs.Lifting.{WritesSlots}
use Rattle.report_text.specs.declared.names.Name.{Name}
use Rattle.report_text.specs.declared.reports.Report.{Report}
use Rattle.report_text.specs.declared.points.PointRows.{PointRows}
use Rattle.report_text.specs.declared.points.PointState.{PointState}
use Rattle.report_text.specs.declared.points.PointState.TheVariants.{Unreached, Rows}
use Rattle.rv_step.specs.Harts.{fetched}
use Rattle.rv_step.specs.Machines.{hart_of, made_of}
use Rattle.rv_step.specs.Runs.{Starts}
use Rattle.rv_step.specs.Steps.{Step}
use Rattle.rv_step.specs.Records.{IsRecord, IsClosing, StopsWith}
use Rattle.rv_step.specs.declared.machine.Machine.{Machine}
use Rattle.rv_step.specs.declared.records.StepRec.{StepRec}
use Rattle.rv_step.specs.declared.records.Stop.{Stop}
use Rattle.rv_step.specs.declared.records.Stop.TheVariants as stop
use Rattle.run_watch.specs.declared.places.CodeAt.{CodeAt}
use Rattle.run_watch.specs.declared.context.Found.{Found}
use Rattle.run_watch.specs.declared.stops.RunStop.{RunStop}
use Rattle.run_watch.specs.declared.stops.RunStop.TheVariants as run
use Rattle.run_watch.specs.Activations.{Stack, begun, slots_of, slots_from, AreValues, Turned, Leaves}
use Rattle.run_watch.specs.Moments.{Moment}
use Rattle.run_watch.specs.Judges.{judge}

pub record Scene : Type 0 where
  pub points : FlowPoints
  pub offsets : List (Option ℕ)
  pub names : List Name
  pub told : List PointRows
  pub code : List CodeAt

abbrev pub scene_of : FlowPoints → List (Option ℕ) → Report → List CodeAt → Scene
scene_of points offsets report code =
    record { points = points; offsets = offsets; names = report.tracked.names; told = report.points; code = code }

pub record Spot : Type 0 where
  pub machine : Machine
  pub stack : Stack

pub record Sight : Type 0 where
  pub moment : Moment
  pub told : StepRec

abbrev pub sight_of : Moment → StepRec → Sight
sight_of moment told = record { moment = moment; told = told }

abbrev pub pc_of : Spot → ℕ
pc_of a = (hart_of a.machine).pc

abbrev pub steps_of : Spot → ℕ
steps_of a = made_of a.machine

abbrev pub point_of : PointRows → Point
point_of told = point told.proc_entry told.address

abbrev pub is_told_of : Point → PointRows → Bool
is_told_of p told = told.proc_entry == p.proc_entry && told.address == p.address

abbrev pub told_at : List PointRows → Point → Option PointState
told_at told p = option_map (λ t. t.state) (find (is_told_of p) told)

abbrev pub is_unreached : Option PointState → Bool
is_unreached None = false
is_unreached (Some Unreached) = true
is_unreached (Some (Rows rows)) = false

abbrev pub rows_in : Option PointState → List (List ℕ)
rows_in None = []
rows_in (Some Unreached) = []
rows_in (Some (Rows rows)) = rows

abbrev pub is_return : Flow → Bool
is_return Return = true
is_return flow = false

abbrev pub IsCall : Flow → Type 0
IsCall (Call target next) = Unit {0}
IsCall flow = ⊥

pub record IsAtPoint (scene : Scene) (a : Spot) (i : ℕ) (c : CodePoint) : Type 0 where
  pub code : slice_get scene.points.points i ≡ Some c
  pub place : c.point ≡ point a.stack.last.procedure (pc_of a)

abbrev pub IsOffPoints : Scene → Spot → Type 0
IsOffPoints scene a = Contains (places_of scene.points.points) (point a.stack.last.procedure (pc_of a)) → ⊥

pub record Describes (scene : Scene) (a : Spot) (i : ℕ) (c : CodePoint) (m : Moment) : Type 0 where
  pub point : m.point ≡ i
  pub proc_entry : m.proc_entry ≡ a.stack.last.procedure
  pub depth : m.depth ≡ length a.stack.earlier + 1
  pub entry_sp : m.entry_sp ≡ a.stack.last.entry_sp
  pub entry_saved : m.entry_saved ≡ a.stack.last.saved
  pub relied : m.relied ≡ a.stack.last.relied
  pub return_to : m.return_to ≡ a.stack.last.return_to
  pub returns : m.is_return ≡ is_return c.flow
  pub values : AreValues scene.names a.stack.last (hart_of a.machine) m.values
  pub unreached : m.unreached ≡ is_unreached (told_at scene.told c.point)
  pub rows : m.rows ≡ rows_in (told_at scene.told c.point)
  pub writable : WritesSlots scene.points.points scene.names c m.writable
  pub earlier_slots : m.slots.earlier ≡ slots_from scene.names 1 a.stack.earlier
  pub last_slots : m.slots.last ≡ slots_of scene.names (length a.stack.earlier + 1) a.stack.last
  pub code : m.code ≡ scene.code

pub record IsClosingSight (scene : Scene) (a : Spot) (i : ℕ) (c : CodePoint) (s : Sight) : Type 0 where
  pub moment : Describes scene a i c s.moment
  pub closing : IsClosing a.machine s.told

abbrev pub most_activations : ℕ
most_activations = 65536

abbrev pub has_word : Spot → CodePoint → Type 0
has_word a c = option_map (λ at. at.word) (fetched (hart_of a.machine)) ≡ Some c.word

pub record CanStep (scene : Scene) (limit : ℕ) (a : Spot) (i : ℕ) (c : CodePoint) : Type 0 where
  pub at : IsAtPoint scene a i c
  pub more : steps_of a ≢ limit
  pub same : has_word a c
  pub room : IsCall c.flow → length a.stack.earlier + 1 ≢ most_activations

pub record MakesStep (scene : Scene) (limit : ℕ) (a : Spot) (i : ℕ) (c : CodePoint) (s : Sight) (machine : Machine) : Type 0 where
  pub can : CanStep scene limit a i c
  pub goes_on : (why : Stop) → StopsWith (hart_of a.machine) why → ⊥
  pub step : Step (hart_of a.machine) (hart_of machine)
  pub counted : made_of machine ≡ steps_of a + 1
  pub told : IsRecord a.machine machine s.told
  pub moment : Describes scene a i c s.moment

pub record Goes (scene : Scene) (limit : ℕ) (a : Spot) (s : Sight) (b : Spot) : Type 0 where
  pub i : ℕ
  pub c : CodePoint
  pub makes : MakesStep scene limit a i c s b.machine
  pub turned : Turned c.flow i scene.offsets s.told.regs s.told.next a.stack b.stack

abbrev pub run_stop : Stop → Option RunStop
run_stop (stop.Exit a0) = Some (run.Exit a0)
run_stop (stop.Break at) = Some (run.Break at)
run_stop (stop.Ecall a7) = Some (run.Ecall a7)
run_stop why = None

pub data Ends (scene : Scene) (limit : ℕ) (a : Spot) (seen : List Sight) (steps : ℕ) (stop : RunStop) : Type 0 where
  lost_at_limit : IsOffPoints scene a → steps_of a ≡ limit
      → seen ≡ [] → steps ≡ steps_of a → stop ≡ run.Budget → Ends scene limit a seen steps stop
  lost : IsOffPoints scene a → steps_of a ≢ limit
      → seen ≡ [] → steps ≡ steps_of a → stop ≡ run.Left (pc_of a) → Ends scene limit a seen steps stop
  budget : (i : ℕ) (c : CodePoint) (s : Sight) → IsAtPoint scene a i c → steps_of a ≡ limit
      → IsClosingSight scene a i c s → seen ≡ s ∷ [] → steps ≡ steps_of a → stop ≡ run.Budget → Ends scene limit a seen steps stop
  altered : (i : ℕ) (c : CodePoint) → IsAtPoint scene a i c → steps_of a ≢ limit → (has_word a c → ⊥)
      → seen ≡ [] → steps ≡ steps_of a → stop ≡ run.Left (pc_of a) → Ends scene limit a seen steps stop
  deep : (i : ℕ) (c : CodePoint) (s : Sight) → IsAtPoint scene a i c → steps_of a ≢ limit → has_word a c
      → IsCall c.flow → length a.stack.earlier + 1 ≡ most_activations
      → IsClosingSight scene a i c s → seen ≡ s ∷ [] → steps ≡ steps_of a → stop ≡ run.Depth most_activations
      → Ends scene limit a seen steps stop
  stops : (i : ℕ) (c : CodePoint) (s : Sight) (why : Stop) → CanStep scene limit a i c → StopsWith (hart_of a.machine) why
      → run_stop why ≡ Some stop → IsClosingSight scene a i c s → seen ≡ s ∷ [] → steps ≡ steps_of a
      → Ends scene limit a seen steps stop
  strays : (i : ℕ) (c : CodePoint) (why : Stop) → CanStep scene limit a i c → StopsWith (hart_of a.machine) why
      → run_stop why ≡ None → seen ≡ [] → steps ≡ steps_of a → stop ≡ run.Left (pc_of a)
      → Ends scene limit a seen steps stop
  leaves : (i : ℕ) (c : CodePoint) (s : Sight) (machine : Machine) → MakesStep scene limit a i c s machine
      → Leaves c.flow s.told.next a.stack → seen ≡ s ∷ [] → steps ≡ made_of machine → stop ≡ run.Left s.told.next
      → Ends scene limit a seen steps stop

pub data Reaches (scene : Scene) (limit : ℕ) (a : Spot) : List Sight → Spot → Type 0 where
  here : (seen : List Sight) (b : Spot) → seen ≡ [] → b ≡ a → Reaches scene limit a seen b
  onward : (seen before : List Sight) (b c : Spot) (s : Sight) → Reaches scene limit a before b → Goes scene limit b s c
      → seen ≡ before ++ s ∷ [] → Reaches scene limit a seen c

pub record IsWatched (scene : Scene) (limit : ℕ) (a : Spot) (seen : List Sight) (steps : ℕ) (stop : RunStop) : Type 0 where
  pub before : List Sight
  pub last : Spot
  pub after : List Sight
  pub reaches : Reaches scene limit a before last
  pub ends : Ends scene limit last after steps stop
  pub all : seen ≡ before ++ after

pub data Turn (scene : Scene) (limit : ℕ) (a b : Spot) (seen : List Sight) : Option RunStop → Type 0 where
  on : (stop : Option RunStop) (s : Sight) → stop ≡ None → Goes scene limit a s b → seen ≡ s ∷ [] → Turn scene limit a b seen stop
  off : (stop : Option RunStop) (why : RunStop) → stop ≡ Some why → Ends scene limit a seen (steps_of b) why
      → Turn scene limit a b seen stop

pub record Begins (image : Image) (regs : List ℕ) (a : Spot) : Type 0 where
  pub starts : Starts image (hart_of a.machine)
  pub registers : (hart_of a.machine).registers ≡ slice_set regs 0 0
  pub memory : (address : ℕ) → (hart_of a.machine).memory address ≡ loaded image address
  pub unmade : steps_of a ≡ 0
  pub first : a.stack.earlier ≡ []
  pub last : a.stack.last ≡ begun image.entry (hart_of a.machine).registers

abbrev pub instruction_of : CodePoint → CodeAt
instruction_of c = record { address = c.point.address; length = c.length }

pub record AreInstructionsOf (points : List CodePoint) (code : List CodeAt) : Type 0 where
  pub all : All (λ c. Contains code (instruction_of c)) points
  pub only : All (Contains (map instruction_of points)) code
  pub ascending : AllPairs (λ a b. a.address < b.address) code

pub record IsPut (code : List CodeAt) (at : CodeAt) (now : List CodeAt) : Type 0 where
  pub kept : All (Contains now) code
  pub there : CodeAt
  pub among : Contains now there
  pub its_address : there.address ≡ at.address
  pub only : All (λ b. Contains code b ⊎ (b ≡ at)) now
  pub ascending : AllPairs (λ a b. a.address < b.address) now

pub record IsRunOf (image : Image) (points : FlowPoints) (offsets : List (Option ℕ)) (report : Report) (regs : List ℕ) (limit : ℕ)
    (seen : List Sight) (steps : ℕ) (stop : RunStop) : Type 0 where
  pub code : List CodeAt
  pub instructions : AreInstructionsOf points.points code
  pub start : Spot
  pub begins : Begins image regs start
  pub watched : IsWatched (scene_of points offsets report code) limit start seen steps stop

abbrev pub verdict : ℕ → Option Found → List Sight → Option Found
verdict kind state [] = state
verdict kind state (s ∷ seen) = verdict kind (judge kind state s.moment s.told) seen

pub record HasSeen (seen : List Sight) (kind : ℕ) (before : Option Found) (kind_then : ℕ) (after : Option Found) : Type 0 where
  pub same_kind : kind_then ≡ kind
  pub judged : 1 ≤ kind → kind ≤ 4 → after ≡ verdict kind before seen

abbrev pub IsVerdict : ℕ → Option Found → List Sight → Option Found → Type 0
IsVerdict kind state seen found = 1 ≤ kind → kind ≤ 4 → found ≡ verdict kind state seen
