-- The program of the points of an image, with tracked names. Node i is point i; behind the points stand the exits of the
-- procedures, in the order of their addresses.
--
--   is_at p c                          the code c is that of the point p
--   node_of points p                   the node of the point p: its number
--   number_of points a                 the number of the procedure with the entry a
--   exit_of points a                   the node of its exit
--   positions_where test names         the set of the positions of the names that pass the test
--   is_tracked_register name           the name is a register
--   is_slot_of a name                  the name is a slot of the procedure with the entry a
--   chooses chosen name                the name is of those meant: registers, slots of a procedure, slots that a store touches
--   proc_of points names a             the procedure with the entry a
--   owners_in points                   the number of the procedure of each node
--   edges_by points assigns u p flow   the edges from node u of procedure p, where its instruction makes these assignments and
--                                      has this flow: a call edge from a call to the point behind it, one without
--                                      assignments from a return to the exit, and else one for each point where the flow
--                                      goes on, in the order of `successors_of`
--   edges_of points assigns c          the edges from the point c
--   edges_along_by w points offset names cs
--                                      the edges from each point of a list in turn, with assignments to words, or to their low
--                                      32 bits
--   edges_along points offset names cs the same with assignments to words
--   offset_from points offsets c r     the offset that a table of all points tells of register r at c
--   TellsOffsets points offset         offset c r is the offset of register r at the point c, if it has one there
--   IsLiftedBy w points names program  the program is that of the points with these names, of words or of their low 32 bits
--   IsLifted points names program      so it is, of words
--   IsSlotAt names k                   the name at position k is a slot
--   AreSlotWrites names assigns set    the set has the slots that are assigned
--   WritesSlots points names c set     the set has the slots that the point c assigns
use Rattle.std.specs.Prelude.{◌≡◌, ◌↔◌, ℕ, ◌+◌, ◌*◌, ◌==◌, Bool, true, false, ◌&&◌, IsTrue, List, [], ◌∷◌, ◌++◌, length, map, flat_map, position, unwrap_or, Contains, Option, Some, slice_get, if◌then◌else◌}
use Rattle.row_modules.specs.Positions.{has}
use Rattle.affine_prog.specs.Programs.{edge}
use Rattle.affine_prog.specs.Assignments.{position_of}
use Rattle.affine_prog.specs.declared.Program.{Program}
use Rattle.affine_prog.specs.declared.Proc.{Proc}
use Rattle.affine_prog.specs.declared.Edge.{Edge}
use Rattle.affine_prog.specs.declared.Kind.TheVariants.{Do, Call as CallEdge}
use Rattle.affine_prog.specs.declared.Assign.{Assign}
use Rattle.flow_points.specs.Walks.{point, successors_of}
use Rattle.flow_points.specs.PointLists.{FlowPoints, entries_of}
use Rattle.flow_points.specs.declared.code_points.Point.{Point}
use Rattle.flow_points.specs.declared.code_points.CodePoint.{CodePoint}
use Rattle.flow_points.specs.declared.code_points.Flow.{Flow}
use Rattle.flow_points.specs.declared.code_points.Flow.TheVariants.{Call, Return}
use Rattle.frame_offsets.specs.Frames.{offset_at}
use Rattle.report_text.specs.declared.names.Name.{Name}
use Rattle.report_text.specs.declared.names.Name.TheVariants.{Register, Slot}
use Rattle.affine_lift.specs.declared.chosen.Chosen.{Chosen}
use Rattle.affine_lift.specs.declared.chosen.Chosen.TheVariants.{Registers, SlotsOf, SlotsTouched}
use Rattle.affine_lift.specs.declared.width.Width.{Width}
use Rattle.affine_lift.specs.declared.width.Width.TheVariants.{Wide}
use Rattle.affine_lift.specs.FrameSlots.{is_touched}
use Rattle.affine_lift.specs.Effects.{effect_by, AreOffsetsAt, IsEffect}

abbrev pub is_at : Point → CodePoint → Bool
is_at p c = c.point.proc_entry == p.proc_entry && c.point.address == p.address

abbrev pub node_of : FlowPoints → Point → ℕ
node_of points p = unwrap_or (position (is_at p) points.points) 0

abbrev pub number_of : FlowPoints → ℕ → ℕ
number_of points a = unwrap_or (position (λ p. p == a) points.procedures) 0

abbrev pub exit_of : FlowPoints → ℕ → ℕ
exit_of points a = length points.points + number_of points a

abbrev pub positions_where : (Name → Bool) → List Name → ℕ
positions_where test [] = 0
positions_where test (name ∷ names) = (if test name then 1 else 0) + 2 * positions_where test names

abbrev pub is_tracked_register : Name → Bool
is_tracked_register (Register r) = true
is_tracked_register (Slot p n) = false

abbrev pub is_slot_of : ℕ → Name → Bool
is_slot_of a (Register r) = false
is_slot_of a (Slot p n) = p == a

abbrev pub chooses : Chosen → Name → Bool
chooses Registers name = is_tracked_register name
chooses (SlotsOf a) name = is_slot_of a name
chooses (SlotsTouched p s) name = is_touched p s name

abbrev pub proc_of : FlowPoints → List Name → ℕ → Proc
proc_of points names a =
    record { entry = node_of points (point a a); exit = exit_of points a; slots = positions_where (is_slot_of a) names }

abbrev pub owners_in : FlowPoints → List ℕ
owners_in points = map (number_of points) (entries_of points.points ++ points.procedures)

abbrev pub edges_by : FlowPoints → List Assign → ℕ → ℕ → Flow → List Edge
edges_by points assigns u p (Call target next) = edge u (node_of points (point p next)) (CallEdge (number_of points target) assigns) ∷ []
edges_by points assigns u p Return = edge u (exit_of points p) (Do []) ∷ []
edges_by points assigns u p flow = map (λ to. edge u (node_of points to) (Do assigns)) (successors_of p flow)

abbrev pub edges_of : FlowPoints → List Assign → CodePoint → List Edge
edges_of points assigns c = edges_by points assigns (node_of points c.point) c.point.proc_entry c.flow

abbrev pub edges_along_by : Width → FlowPoints → (CodePoint → ℕ → Option ℕ) → List Name → List CodePoint → List Edge
edges_along_by w points offset names cs = flat_map (λ c. edges_of points (effect_by w names c (offset c)) c) cs

abbrev pub edges_along : FlowPoints → (CodePoint → ℕ → Option ℕ) → List Name → List CodePoint → List Edge
edges_along points offset names cs = edges_along_by Wide points offset names cs

abbrev pub offset_from : FlowPoints → List (Option ℕ) → CodePoint → ℕ → Option ℕ
offset_from points offsets c r = offset_at offsets (node_of points c.point) r

abbrev pub TellsOffsets : List CodePoint → (CodePoint → ℕ → Option ℕ) → Type 0
TellsOffsets points offset = (c : CodePoint) → Contains points c → AreOffsetsAt points c (offset c)

pub record IsLiftedBy (w : Width) (points : FlowPoints) (names : List Name) (program : Program) : Type 0 where
  pub width : program.width ≡ length names
  pub registers : program.registers ≡ positions_where is_tracked_register names
  pub procs : program.procs ≡ map (proc_of points names) points.procedures
  pub nodes : program.nodes ≡ length points.points + length points.procedures
  pub owners : program.owners ≡ owners_in points
  pub start : program.start ≡ number_of points points.entry
  pub offset : CodePoint → ℕ → Option ℕ
  pub offsets_are : TellsOffsets points.points offset
  pub edges : program.edges ≡ edges_along_by w points offset names points.points

abbrev pub IsLifted : FlowPoints → List Name → Program → Type 0
IsLifted points names program = IsLiftedBy Wide points names program

abbrev pub IsSlotAt : List Name → ℕ → Type 0
IsSlotAt names k = (p n : ℕ) × (slice_get names k ≡ Some (Slot p n))

abbrev pub AreSlotWrites : List Name → List Assign → ℕ → Type 0
AreSlotWrites names assigns set = (k : ℕ) → IsTrue (has set k) ↔ (IsSlotAt names k × Contains (map position_of assigns) k)

pub record WritesSlots (points : List CodePoint) (names : List Name) (c : CodePoint) (set : ℕ) : Type 0 where
  pub assigns : List Assign
  pub effect : IsEffect points names c assigns
  pub slots : AreSlotWrites names assigns set
