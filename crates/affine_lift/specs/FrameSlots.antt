-- Loads and stores on the frame. An offset is a word: an address less the stack pointer at the procedure's entry, wrapping
-- at 2^64. The slot n bytes below that pointer is the word of the eight bytes from the offset 2^64 - n on, or, where the low
-- 32 bits alone are told of, that of the four bytes from there on.
--
--   slot_offset n                  the offset of the slot n bytes below
--   base_of instr                  the base register of a load or a store, and what is added to it
--   access_of instr offset         the offset of a load's or a store's first byte, where its base register has one:
--                                  offset r is the one of register r
--   is_slot_at p e name            the name is the slot of procedure p at the offset e
--   loaded names p op access       what a load gives: LD of exactly a tracked slot of p its word, any other any word
--   width_of op                    how many bytes a store sets
--   size_of w                      how many bytes a slot has
--   is_byte_by w n e               the byte at the offset e is one of the slot n bytes below
--   touches_by w width e n         one of so many bytes from e on is
--   store_of instr access          the store of an instruction, where its offset is known
--   is_whole_by w op               a store at a slot's offset sets its word: SD, and SW too where a slot has four bytes
--   stored_word_by w names s k n   what a store gives to the slot n bytes below at position k: such a store at exactly the
--                                  slot's offset the register, any other any word
--   is_touched_by w p s name       the name is a slot of p that the store touches
--   stored_by w names p s item     the assignment that a store makes to a name with its position, if that is a slot of p
--                                  which it touches
--   stores_by w names p s          all of them, in the order of the positions
--   is_byte_of, touches, is_whole, stored_word, is_touched, stored_in, stored, stores_of
--                                  the same of whole words
use Rattle.std.specs.Prelude.{ℕ, ◌+◌, ◌-◌, ◌^◌, ℤ, Bool, false, true, ◌&&◌, nat_lt, List, Option, Some, None, position, if◌then◌else◌, ◌==◌, filter_map}
use Rattle.std.specs.List.{enumerate_from, list_any, range_with_len}
use Rattle.std.specs.Option.{option_map_or}
use Rattle.word_rows.specs.Words.{word}
use Rattle.affine_prog.specs.declared.Assign.{Assign}
use Rattle.affine_prog.specs.declared.Assign.TheVariants.{Any}
use Rattle.frame_offsets.specs.Frames.{moved}
use Rattle.report_text.specs.declared.names.Name.{Name}
use Rattle.report_text.specs.declared.names.Name.TheVariants.{Register, Slot}
use Rattle.rv_instr.specs.declared.Instr.{Instr}
use Rattle.rv_instr.specs.declared.Instr.TheVariants.{Load, Store}
use Rattle.rv_instr.specs.declared.LoadOp.{LoadOp}
use Rattle.rv_instr.specs.declared.LoadOp.TheVariants.{Ld}
use Rattle.rv_instr.specs.declared.StoreOp.{StoreOp}
use Rattle.rv_instr.specs.declared.StoreOp.TheVariants.{Sb, Sh, Sw, Sd}
use Rattle.affine_lift.specs.declared.value.Value.{Value}
use Rattle.affine_lift.specs.declared.value.Value.TheVariants.{Held, Unknown}
use Rattle.affine_lift.specs.declared.store.FrameStore.{FrameStore}
use Rattle.affine_lift.specs.declared.width.Width.{Width}
use Rattle.affine_lift.specs.declared.width.Width.TheVariants.{Wide, Narrow}
use Rattle.affine_lift.specs.Values.{assigned, multiple}

abbrev pub slot_offset : ℕ → ℕ
slot_offset n = word (2 ^ 64 - n)

abbrev pub base_of : Instr → Option (ℕ × ℤ)
base_of (Load op rd rs1 imm) = Some (rs1, imm)
base_of (Store op rs1 rs2 imm) = Some (rs1, imm)
base_of instr = None

abbrev pub access_of : Instr → (ℕ → Option ℕ) → Option ℕ
access_of instr offset = moved (base_of instr) offset

abbrev pub is_slot_at : ℕ → ℕ → Name → Bool
is_slot_at p e (Register r) = false
is_slot_at p e (Slot q n) = q == p && e == slot_offset n

abbrev pub loaded : List Name → ℕ → LoadOp → Option ℕ → Value
loaded names p Ld (Some e) = option_map_or Held (position (is_slot_at p e) names) Unknown
loaded names p op access = Unknown

abbrev pub width_of : StoreOp → ℕ
width_of Sb = 1
width_of Sh = 2
width_of Sw = 4
width_of Sd = 8

abbrev pub size_of : Width → ℕ
size_of Wide = 8
size_of Narrow = 4

abbrev pub is_byte_by : Width → ℕ → ℕ → Bool
is_byte_by w n e = nat_lt (word (e + n)) (size_of w)

abbrev pub is_byte_of : ℕ → ℕ → Bool
is_byte_of n e = is_byte_by Wide n e

abbrev pub touches_by : Width → ℕ → ℕ → ℕ → Bool
touches_by w width e n = list_any (λ i. is_byte_by w n (e + i)) (range_with_len 0 width)

abbrev pub touches : ℕ → ℕ → ℕ → Bool
touches width e n = touches_by Wide width e n

abbrev pub store_of : Instr → Option ℕ → Option FrameStore
store_of (Store op rs1 rs2 imm) (Some e) = Some (record { op = op; offset = e; register = rs2 })
store_of instr access = None

abbrev pub is_whole_by : Width → StoreOp → Bool
is_whole_by w Sd = true
is_whole_by Narrow Sw = true
is_whole_by w op = false

abbrev pub is_whole : StoreOp → Bool
is_whole op = is_whole_by Wide op

abbrev pub stored_word_by : Width → List Name → FrameStore → ℕ → ℕ → Assign
stored_word_by w names s k n = if is_whole_by w s.op && s.offset == slot_offset n then assigned names k (multiple 1 s.register) else Any k

abbrev pub stored_word : List Name → FrameStore → ℕ → ℕ → Assign
stored_word names s k n = stored_word_by Wide names s k n

abbrev pub is_touched_by : Width → ℕ → FrameStore → Name → Bool
is_touched_by w p s (Register r) = false
is_touched_by w p s (Slot q n) = q == p && touches_by w (width_of s.op) s.offset n

abbrev pub is_touched : ℕ → FrameStore → Name → Bool
is_touched p s name = is_touched_by Wide p s name

abbrev pub stored_in_by : Width → List Name → ℕ → FrameStore → ℕ → Name → Option Assign
stored_in_by w names p s k (Register r) = None
stored_in_by w names p s k (Slot q n) = if is_touched_by w p s (Slot q n) then Some (stored_word_by w names s k n) else None

abbrev pub stored_in : List Name → ℕ → FrameStore → ℕ → Name → Option Assign
stored_in names p s k name = stored_in_by Wide names p s k name

abbrev pub stored_by : Width → List Name → ℕ → FrameStore → ℕ × Name → Option Assign
stored_by w names p s item = stored_in_by w names p s item.0 item.1

abbrev pub stored : List Name → ℕ → FrameStore → ℕ × Name → Option Assign
stored names p s item = stored_by Wide names p s item

abbrev pub stores_by : Width → List Name → ℕ → FrameStore → List Assign
stores_by w names p s = filter_map (stored_by w names p s) (enumerate_from 0 names)

abbrev pub stores_of : List Name → ℕ → FrameStore → List Assign
stores_of names p s = stores_by Wide names p s
