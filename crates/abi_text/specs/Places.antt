-- What the text for people tells of a point of a table.
--
--   word_at image a            the word that the image has at an address, or `-`
--   line_text image a line     the instruction of a point, or the word that is there
--   instr_at image rows p a    it, at the first point of an address of a procedure
--   slot_by point              the offset of the slot that is loaded from, as far as it is known
--   slot_at rows p a           it, at that point
--   is_loaded v                the value was loaded from no slot
--   has_loaded rows p a        ra is such a value at that point
--   callee_of flow             the procedure that is called
--   callee_at image rows p a   it, at that point
--   is_turned line a b         the way from a branch at a goes to b, which isn't behind it
--   turned_at rows p a b       so at that point
use Rattle.std.specs.Prelude.{ℕ, ◌+◌, ◌%◌, ◌^◌, ◌==◌, not, ◌&&◌, Bool, true, false, List, [], ◌∷◌, ◌++◌, codes, get_or, Option, None, Some, option_and_then, if◌then◌else◌}
use Rattle.elf_image.specs.declared.fetched.Fetched.{Fetched}
use Rattle.elf_image.specs.declared.image.Image.{Image}
use Rattle.elf_image.specs.Images.{code_at}
use Rattle.rv_instr.specs.declared.Instr.{Instr}
use Rattle.rv_instr.specs.declared.Instr.TheVariants.{Branch, Load}
use Rattle.rv_text.specs.Text.{instr_text}
use Rattle.rv_text.specs.Words.{word_text}
use Rattle.entry_values.specs.declared.values.Kind.{Kind}
use Rattle.entry_values.specs.declared.values.Kind.TheVariants.{Loaded}
use Rattle.entry_values.specs.declared.values.Value.{Value}
use Rattle.entry_values.specs.declared.values.Value.TheVariants.{Is, Any}
use Rattle.entry_values.specs.declared.states.State.{State}
use Rattle.entry_values.specs.declared.flow.Flow.{Flow}
use Rattle.entry_values.specs.declared.flow.Flow.TheVariants.{CallTo}
use Rattle.entry_values.specs.Values.{plus, unknown}
use Rattle.entry_tables.specs.declared.rows.Line.{Line}
use Rattle.entry_tables.specs.declared.rows.Point.{Point}
use Rattle.entry_tables.specs.declared.rows.Rows.{Rows}
use Rattle.entry_tables.specs.Settling.{point_at, line_of, point_flow}

abbrev pub word_of : Option Fetched → List ℕ
word_of None = codes "-"
word_of (Some at) = codes "word " ++ word_text at.word at.length

abbrev pub word_at : Image → ℕ → List ℕ
word_at image a = word_of (code_at image a)

abbrev pub line_text : Image → ℕ → Option Line → List ℕ
line_text image a (Some line) = instr_text line.instr
line_text image a None = word_at image a

abbrev pub instr_at : Image → Rows → ℕ → ℕ → List ℕ
instr_at image rows p a = line_text image a (line_of (point_at rows.points p a))

abbrev pub slot_in : Value → Option ℕ
slot_in (Is b k) = if b == 2 then Some k else None
slot_in (Any a kind) = None

abbrev pub slot_under : List Value → Instr → Option ℕ
slot_under values (Load op rd rs1 imm) = slot_in (plus (get_or values rs1 unknown) imm)
slot_under values instr = None

abbrev pub slot_on : List Value → Option Line → Option ℕ
slot_on values (Some line) = slot_under values line.instr
slot_on values None = None

abbrev pub slot_by : Point → Option ℕ
slot_by point = slot_on point.state.values point.line

abbrev pub slot_at : Rows → ℕ → ℕ → Option ℕ
slot_at rows p a = option_and_then slot_by (point_at rows.points p a)

abbrev pub is_loaded_kind : Kind → Bool
is_loaded_kind Loaded = true
is_loaded_kind kind = false

abbrev pub is_loaded : Value → Bool
is_loaded (Any a kind) = is_loaded_kind kind
is_loaded (Is b k) = false

abbrev pub has_loaded_in : Option Point → Bool
has_loaded_in (Some point) = is_loaded (get_or point.state.values 1 unknown)
has_loaded_in None = false

abbrev pub has_loaded : Rows → ℕ → ℕ → Bool
has_loaded rows p a = has_loaded_in (point_at rows.points p a)

abbrev pub callee_of : Flow → Option ℕ
callee_of (CallTo q next) = Some q
callee_of flow = None

abbrev pub callee_by : Image → Rows → Point → Option ℕ
callee_by image rows point = callee_of (point_flow image rows.guesses point)

abbrev pub callee_at : Image → Rows → ℕ → ℕ → Option ℕ
callee_at image rows p a = option_and_then (callee_by image rows) (point_at rows.points p a)

abbrev pub is_branch : Instr → Bool
is_branch (Branch op rs1 rs2 off) = true
is_branch instr = false

abbrev pub is_turned : Option Line → ℕ → ℕ → Bool
is_turned (Some line) a b = is_branch line.instr && not (b == (a + line.length) % 2 ^ 64)
is_turned None a b = false

abbrev pub turned_at : Rows → ℕ → ℕ → ℕ → Bool
turned_at rows p a b = is_turned (line_of (point_at rows.points p a)) a b
