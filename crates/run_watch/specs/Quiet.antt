-- Steps at which watches of the four kinds find nothing, as they can be told before they are made.
--
--   is_close place a       one of the 8 bytes from the address a on is one of the 8 bytes from the place on
--   may_change depth writable a slot   a store at the address a may change a byte of this slot, which isn't writable
--   IsStraight flow        the flow is neither a call nor a return
--   told_detail told values   what kind 1 finds where this is told of the point and the names have these values
--   stored_to instr m      the address to which the instruction stores, if it does
--   IsSpared moment a      no store at the address a changes a byte that is kept, or one of an instruction
--   IsLeft slots depth writable code a   the slots of earlier activations, and the instructions, have none of the 8 bytes from
--                          the address a on, and those of the last that have one are writable
--   IsCalm scene a i c instr   the run is at a point where kind 1 finds nothing, and where the instruction stores, its address
--                          is spared
--   IsKnown kind           it is told what watches of this kind find
--   IsQuiet s              none of the kinds 1 to 4 finds anything in this record
--   IsQuietStep scene limit a b   a step from a to b in whose record nothing is found; the activations stay
--   Quietly scene limit a b   the run goes from a to b by such steps: no kind finds anything in what is seen of them
use Rattle.std.specs.Prelude.{◌≡◌, ℕ, ◌+◌, ◌%◌, ◌^◌, ◌≤◌, nat_lt, ◌==◌, Bool, false, not, ◌&&◌, pos, ◌+ℤ◌, List, All, find, position, Option, None, Some, if◌then◌else◌, IfSome}
use Rattle.std.specs.List.{list_any}
use Rattle.rv_instr.specs.declared.Instr.{Instr}
use Rattle.rv_instr.specs.declared.Instr.TheVariants.{Store}
use Rattle.rv_step.specs.Words.{word}
use Rattle.rv_step.specs.Harts.{Hart, x}
use Rattle.rv_step.specs.Effects.{distance}
use Rattle.rv_step.specs.Machines.{hart_of}
use Rattle.rv_step.specs.declared.records.StoreRec.{StoreRec}
use Rattle.flow_points.specs.declared.code_points.CodePoint.{CodePoint}
use Rattle.flow_points.specs.declared.code_points.Flow.{Flow}
use Rattle.flow_points.specs.declared.code_points.Flow.TheVariants.{Call, Return}
use Rattle.report_text.specs.declared.points.PointState.{PointState}
use Rattle.word_rows.specs.Rows.{dot}
use Rattle.run_watch.specs.declared.places.SlotAt.{SlotAt}
use Rattle.run_watch.specs.declared.places.CodeAt.{CodeAt}
use Rattle.run_watch.specs.Slots.{Slots, IsApart, IsOff}
use Rattle.run_watch.specs.Moments.{Moment}
use Rattle.run_watch.specs.Judges.{is_writable, is_kept, is_code, changed_bytes, relation_detail, detail_of}
use Rattle.run_watch.specs.Runs.{Scene, Spot, Sight, Describes, Goes, Reaches, steps_of, is_unreached, rows_in, verdict}
use Rattle.run_watch.specs.declared.context.Found.{Found}

abbrev pub is_close : ℕ → ℕ → Bool
is_close place a = nat_lt ((distance place a + 7) % 2 ^ 64) 15

abbrev pub may_change : ℕ → ℕ → ℕ → SlotAt → Bool
may_change depth writable a slot = is_close slot.address a && not (is_writable depth writable slot)

abbrev pub IsStraight : Flow → Type 0
IsStraight (Call target next) = ⊥
IsStraight Return = ⊥
IsStraight flow = Unit {0}

abbrev pub told_detail : Option PointState → List ℕ → Option ℕ
told_detail told values = if is_unreached told then Some 0 else position (λ row. not (dot row values == 0)) (rows_in told)

abbrev pub stored_to : Instr → Hart → Option ℕ
stored_to (Store op rs1 rs2 imm) m = Some (word (pos (x m rs1) +ℤ imm))
stored_to instr m = None

pub record IsSpared (moment : Moment) (a : ℕ) : Type 0 where
  pub slots : (store : StoreRec) → store.address ≡ a → find (is_kept moment) (changed_bytes store) ≡ None
  pub code : (store : StoreRec) → store.address ≡ a → find (is_code moment) (changed_bytes store) ≡ None

pub record IsLeft (slots : Slots) (depth writable : ℕ) (code : List CodeAt) (a : ℕ) : Type 0 where
  pub earlier : All (IsApart a) slots.earlier
  pub last : list_any (may_change depth writable a) slots.last ≡ false
  pub instructions : All (IsOff a) code

pub record IsCalm (scene : Scene) (a : Spot) (i : ℕ) (c : CodePoint) (instr : Instr) : Type 0 where
  pub moment : Moment
  pub describes : Describes scene a i c moment
  pub relations : relation_detail moment ≡ None
  pub spared : IfSome (stored_to instr (hart_of a.machine)) (IsSpared moment)

pub record IsKnown (kind : ℕ) : Type 0 where
  pub least : 1 ≤ kind
  pub most : kind ≤ 4

pub record IsQuiet (s : Sight) : Type 0 where
  pub nothing : (kind : ℕ) → detail_of kind s.moment s.told ≡ None

pub record IsQuietStep (scene : Scene) (limit : ℕ) (a b : Spot) : Type 0 where
  pub s : Sight
  pub goes : Goes scene limit a s b
  pub quiet : IsQuiet s

pub record Quietly (scene : Scene) (limit : ℕ) (a b : Spot) : Type 0 where
  pub seen : List Sight
  pub reaches : Reaches scene limit a seen b
  pub silent : (kind : ℕ) (state : Option Found) → verdict kind state seen ≡ state
  pub onward : steps_of a ≤ steps_of b
  pub within : steps_of b ≤ limit
