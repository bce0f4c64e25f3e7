-- What the watches of kind 1 to 4 find.
--
--   byte k w               byte k of the word w, the lowest first
--   places, saved_places   the numbers 0 to 7, of a word's bytes, and 0 to 11, of the registers s0 to s11
--   is_changed store k     the store changes its byte k
--   changed_bytes store    the addresses of the bytes that a store changes, in its order
--   made_bytes told        those of a made step, if it has a store
--   stored_bytes store     those of a store, if there is one
--   has_bit set i          i is in the set
--   holds_kept depth writable a slot, holds_code a c
--                          the byte at a lies in this slot, which isn't writable; in the bytes of this instruction
--   is_as_at_entry m regs i   the register s of i is as at the entry, if the caller relies on it
--   is_return_to address next   there is a return address, and it is next
--   is_writable m slot     the slot is one of the last activation, and the point assigns to it
--   is_kept m a            the byte at the address a lies in a live slot that isn't writable
--   is_code m a            the byte at the address a belongs to an instruction
--   is_restored m regs     sp and the registers on which the caller relies are as they were at the entry
--   is_home m told         the step leads to the return address, with these registers restored
--   relation_detail m      kind 1: 0 where the point is called unreached, else the number of the first row that the
--                          values break
--   store_detail m told    kind 2: the address of the first changed byte that is kept
--   return_detail m told   kind 3: the address to which a return leads that isn't home
--   code_detail m told     kind 4: the address of the first changed byte of an instruction
--   detail_of kind m told  what the kind finds
--   found_at told detail   the finding at this record
--   judge kind state m told   the state of a watch of the kind after this record: a finding stays
use Rattle.std.specs.Prelude.{ℕ, ◌*◌, ◌/◌, ◌%◌, ◌^◌, nat_lt, ◌==◌, Bool, false, not, ◌&&◌, ◌||◌, List, [], ◌∷◌, slice_index, map, filter, find, position, Option, None, Some, option_map, if◌then◌else◌}
use Rattle.std.specs.List.{list_any, list_all}
use Rattle.word_rows.specs.Rows.{dot}
use Rattle.rv_step.specs.Effects.{distance}
use Rattle.rv_step.specs.declared.records.StepRec.{StepRec}
use Rattle.rv_step.specs.declared.records.StoreRec.{StoreRec}
use Rattle.run_watch.specs.declared.context.Found.{Found}
use Rattle.run_watch.specs.declared.places.SlotAt.{SlotAt}
use Rattle.run_watch.specs.declared.places.CodeAt.{CodeAt}
use Rattle.run_watch.specs.Slots.{byte_at, live}
use Rattle.run_watch.specs.Activations.{saved_registers}
use Rattle.run_watch.specs.Moments.{Moment}

abbrev pub byte : ℕ → ℕ → ℕ
byte k w = w / 2 ^ (8 * k) % 2 ^ 8

abbrev pub places : List ℕ
places = 0 ∷ 1 ∷ 2 ∷ 3 ∷ 4 ∷ 5 ∷ 6 ∷ 7 ∷ []

abbrev pub is_changed : StoreRec → ℕ → Bool
is_changed store k = nat_lt k store.width && not (byte k store.before == byte k store.after)

abbrev pub changed_bytes : StoreRec → List ℕ
changed_bytes store = map (byte_at store.address) (filter (is_changed store) places)

abbrev pub stored_bytes : Option StoreRec → List ℕ
stored_bytes None = []
stored_bytes (Some store) = changed_bytes store

abbrev pub made_bytes : StepRec → List ℕ
made_bytes told = if told.made then stored_bytes told.store else []

abbrev pub has_bit : ℕ → ℕ → Bool
has_bit set i = nat_lt i 16 && set / 2 ^ i % 2 == 1

abbrev pub is_writable : ℕ → ℕ → SlotAt → Bool
is_writable depth writable slot = slot.depth == depth && has_bit writable slot.position

abbrev pub holds_kept : ℕ → ℕ → ℕ → SlotAt → Bool
holds_kept depth writable a slot = nat_lt (distance slot.address a) 8 && not (is_writable depth writable slot)

abbrev pub is_kept : Moment → ℕ → Bool
is_kept m a = list_any (holds_kept m.depth m.writable a) (live m.slots)

abbrev pub holds_code : ℕ → CodeAt → Bool
holds_code a c = nat_lt (distance c.address a) c.length

abbrev pub is_code : Moment → ℕ → Bool
is_code m a = list_any (holds_code a) m.code

abbrev pub saved_places : List ℕ
saved_places = 0 ∷ 1 ∷ 2 ∷ 3 ∷ 4 ∷ 5 ∷ 6 ∷ 7 ∷ 8 ∷ 9 ∷ 10 ∷ 11 ∷ []

abbrev pub is_as_at_entry : Moment → List ℕ → ℕ → Bool
is_as_at_entry m regs i =
    not (has_bit m.relied i) || slice_index regs (slice_index saved_registers i) == slice_index m.entry_saved i

abbrev pub is_restored : Moment → List ℕ → Bool
is_restored m regs = slice_index regs 2 == m.entry_sp && list_all (is_as_at_entry m regs) saved_places

abbrev pub is_return_to : Option ℕ → ℕ → Bool
is_return_to None next = false
is_return_to (Some address) next = address == next

abbrev pub is_home : Moment → StepRec → Bool
is_home m told = is_return_to m.return_to told.next && is_restored m told.regs

abbrev pub relation_detail : Moment → Option ℕ
relation_detail m = if m.unreached then Some 0 else position (λ row. not (dot row m.values == 0)) m.rows

abbrev pub store_detail : Moment → StepRec → Option ℕ
store_detail m told = find (is_kept m) (made_bytes told)

abbrev pub return_detail : Moment → StepRec → Option ℕ
return_detail m told = if told.made && m.is_return && not (is_home m told) then Some told.next else None

abbrev pub code_detail : Moment → StepRec → Option ℕ
code_detail m told = find (is_code m) (made_bytes told)

abbrev pub detail_of : ℕ → Moment → StepRec → Option ℕ
detail_of kind m told =
    if kind == 1 then relation_detail m
    else (if kind == 2 then store_detail m told
    else (if kind == 3 then return_detail m told
    else (if kind == 4 then code_detail m told else None)))

abbrev pub found_at : StepRec → ℕ → Found
found_at told detail = record { index = told.index; address = told.pc; detail = detail }

abbrev pub judge : ℕ → Option Found → Moment → StepRec → Option Found
judge kind (Some found) m told = Some found
judge kind None m told = option_map (found_at told) (detail_of kind m told)
