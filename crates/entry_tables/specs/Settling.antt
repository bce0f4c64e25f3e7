-- The table that lists of rows are, and what its check looks at: each row by itself, over the lists.
--
--   listed keeps, told         the registers that are kept, by a list; the summary that is told
--   guess_at, is_silent        the targets taken for the jump at an address; whether a call is taken not to return
--   opaque_of at               the row of an opaque word that is fetched
--   opaque_at image a          the row of the opaque word that the image has at a
--   IsLineAt image a line      the instruction that the image has at a, with its length
--   IsLined image point        a point has the line that the image has there
--   AreLined image points      each has
--   point_at, told_at          the first point of an address of a procedure; what is told first of a procedure
--   line_of, is_marked         its line, and whether it is marked, where there is one
--   summary_of k               the summary that is told, where something is
--   table_of image rows        the table. A procedure of which nothing is told doesn't return, and keeps nothing
--   IsBefore, Ascend           points ascend strictly, by procedure and by address
--   AscendTold                 so do procedures
--   HasPoint points p b u      a point at b, in the procedure p, claims nothing that u doesn't
--   HasTold procedures q k     this is told of the procedure q
--   IsClosedIn rows            what a point owes to its flow, over the lists
--   point_flow                 the flow at a point
--   IsClosedPoint image rows   a point owes nothing
--   IsChecked image rows       no point does, each procedure has its entry, and all ascend
use Rattle.std.specs.Prelude.{◌≡◌, ◌⊎◌, ℕ, suc, ◌<◌, ◌==◌, ◌&&◌, Bool, true, false, List, [], ◌∷◌, map, length, get_or, slice_get, Option, None, Some, is_some, option_map, IfSome, if◌then◌else◌}
use Rattle.elf_image.specs.Images.{code_at}
use Rattle.elf_image.specs.declared.image.Image.{Image}
use Rattle.elf_image.specs.declared.fetched.Fetched.{Fetched}
use Rattle.rv_instr.specs.declared.Instr.{Instr}
use Rattle.rv_decode.specs.Instructions.{IsWellFormed}
use Rattle.rvc_expand.specs.Lengths.{MeansWithLength}
use Rattle.opaque_words.specs.Table.{opaque_row}
use Rattle.opaque_words.specs.declared.rows.Row.{Row}
use Rattle.entry_values.specs.declared.states.State.{State}
use Rattle.entry_values.specs.declared.flow.Flow.{Flow}
use Rattle.entry_values.specs.declared.flow.Flow.TheVariants.{On, ByTable, CallTo, Foreign, Past, Return, TailOut, Leave, Stuck, Halt}
use Rattle.entry_values.specs.Values.{FitsWord}
use Rattle.entry_values.specs.States.{value_at, start, KnowsNoMore}
use Rattle.entry_tables.specs.declared.rows.Line.{Line}
use Rattle.entry_tables.specs.declared.rows.Told.{Told}
use Rattle.entry_tables.specs.declared.rows.Guess.{Guess}
use Rattle.entry_tables.specs.declared.rows.Point.{Point}
use Rattle.entry_tables.specs.declared.rows.Rows.{Rows}
use Rattle.entry_tables.specs.Tables.{Summary, Table, flow_by, returned, foreign, EachOf, KeepsRegisters, KeepsConvention}

abbrev pub listed : List Bool → ℕ → Bool
listed keeps r = get_or keeps r false

abbrev pub told : Told → Summary
told k = record { returns = k.returns; keeps = listed k.keeps }

abbrev pub guess_at : List Guess → ℕ → Option (List ℕ)
guess_at [] a = None
guess_at (guess ∷ rest) a = if guess.address == a then Some guess.targets else guess_at rest a

abbrev pub is_silent : List ℕ → ℕ → Bool
is_silent [] a = false
is_silent (call ∷ rest) a = if call == a then true else is_silent rest a

abbrev pub opaque_of : Option Fetched → Option Row
opaque_of None = None
opaque_of (Some at) = opaque_row at.word at.length

abbrev pub opaque_at : Image → ℕ → Option Row
opaque_at image a = opaque_of (code_at image a)

abbrev pub IsLineAt : Image → ℕ → Option Line → Type 0
IsLineAt image a (Some line) =
    (at : Fetched) × (code_at image a ≡ Some at) × MeansWithLength at.word at.length line.instr × (line.length ≡ at.length)
IsLineAt image a None = (at : Fetched) (instr : Instr) → code_at image a ≡ Some at → MeansWithLength at.word at.length instr → ⊥

pub record IsLined (image : Image) (point : Point) : Type 0 where
  pub is_line : IsLineAt image point.address point.line
  pub formed : IfSome point.line (λ line. IsWellFormed line.instr)

abbrev pub AreLined : Image → List Point → Type 0
AreLined image points = (i : ℕ) (point : Point) → slice_get points i ≡ Some point → IsLined image point

abbrev pub point_at : List Point → ℕ → ℕ → Option Point
point_at [] p a = None
point_at (point ∷ rest) p a = if point.procedure == p && point.address == a then Some point else point_at rest p a

abbrev pub told_at : List Told → ℕ → Option Told
told_at [] q = None
told_at (k ∷ rest) q = if k.procedure == q then Some k else told_at rest q

abbrev pub line_of : Option Point → Option Line
line_of None = None
line_of (Some point) = point.line

abbrev pub is_marked : Option Point → Bool
is_marked None = false
is_marked (Some point) = point.marked

abbrev pub summary_of : Option Told → Summary
summary_of None = record { returns = false; keeps = λ r. false }
summary_of (Some k) = told k

abbrev pub table_of : Image → Rows → Table
table_of image rows = record {
  procedures = map (λ k. k.procedure) rows.procedures;
  row = λ p a. option_map (λ q. q.state) (point_at rows.points p a);
  marked = λ p a. is_marked (point_at rows.points p a);
  line = λ p a. line_of (point_at rows.points p a);
  summary = λ p. summary_of (told_at rows.procedures p);
  opaque = λ a. opaque_at image a;
  has_code = λ a. is_some (code_at image a);
  guess = λ a. guess_at rows.guesses a;
  stays_out = λ a. is_silent rows.silent a;
}

abbrev pub IsBefore : Point → Point → Type 0
IsBefore x y = (x.procedure < y.procedure) ⊎ ((x.procedure ≡ y.procedure) × (x.address < y.address))

abbrev pub Ascend : List Point → Type 0
Ascend points = (i : ℕ) (x y : Point) → slice_get points i ≡ Some x → slice_get points (suc i) ≡ Some y → IsBefore x y

abbrev pub AscendTold : List Told → Type 0
AscendTold procedures =
    (i : ℕ) (x y : Told) → slice_get procedures i ≡ Some x → slice_get procedures (suc i) ≡ Some y → x.procedure < y.procedure

pub record HasPoint (points : List Point) (p b : ℕ) (u : State) : Type 0 where
  pub i : ℕ
  pub point : Point
  pub is : slice_get points i ≡ Some point
  pub procedure : point.procedure ≡ p
  pub address : point.address ≡ b
  pub less : KnowsNoMore u point.state

pub record HasTold (procedures : List Told) (q : ℕ) (k : Told) : Type 0 where
  pub i : ℕ
  pub is : slice_get procedures i ≡ Some k
  pub procedure : k.procedure ≡ q

abbrev pub IsClosedIn : Rows → Told → ℕ → ℕ → State → Flow → Type 0
IsClosedIn rows k p a s (On targets u) = EachOf targets (λ b. HasPoint rows.points p b u)
IsClosedIn rows k p a s (ByTable targets) = EachOf targets (λ b. HasPoint rows.points p b s)
IsClosedIn rows k p a s (CallTo q next) =
    (j : Told) × HasTold rows.procedures q j
    × (j.returns ≡ true → is_silent rows.silent a ≡ false → HasPoint rows.points p next (returned (told j) s a next))
IsClosedIn rows k p a s (Past row next u) = HasPoint rows.points p next u
IsClosedIn rows k p a s (Foreign next) = HasPoint rows.points p next (returned foreign s a next)
IsClosedIn rows k p a s Return = KeepsRegisters (told k) s
IsClosedIn rows k p a s TailOut = KeepsConvention (told k) × KeepsRegisters (told k) s
IsClosedIn rows k p a s Leave = Unit {0}
IsClosedIn rows k p a s Stuck = KeepsConvention (told k)
IsClosedIn rows k p a s Halt = Unit {0}

abbrev pub point_flow : Image → List Guess → Point → Flow
point_flow image guesses point =
    flow_by (Some point.state) point.marked point.line (opaque_at image point.address) (is_some (code_at image point.address))
    (guess_at guesses point.address) point.address

pub record IsClosedPoint (image : Image) (rows : Rows) (point : Point) : Type 0 where
  pub wide : length point.state.values ≡ 32
  pub words : (r : ℕ) → FitsWord (value_at point.state r)
  pub own : Told
  pub has_own : HasTold rows.procedures point.procedure own
  pub is_line : IsLineAt image point.address point.line
  pub closed : IsClosedIn rows own point.procedure point.address point.state (point_flow image rows.guesses point)

pub record IsChecked (image : Image) (rows : Rows) : Type 0 where
  pub ascend : Ascend rows.points
  pub ascend_told : AscendTold rows.procedures
  pub points : (i : ℕ) (point : Point) → slice_get rows.points i ≡ Some point → IsClosedPoint image rows point
  pub entries : (i : ℕ) (k : Told) → slice_get rows.procedures i ≡ Some k → HasPoint rows.points k.procedure k.procedure start
