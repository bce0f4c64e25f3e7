-- The activations of a run: the open calls of procedures. A run is at a point: its pc, in the procedure of the last
-- activation.
--
--   Activation (of src/)        an open call: the procedure's address, sp at its entry, the return address, which the first
--                               activation lacks, the words of s0 to s11 at the entry, and the set of those on which the
--                               caller relies
--   saved_registers             the numbers of s0 to s11
--   saved_words regs            the words of s0 to s11
--   mask_of test items          the set of the places, from 0 on, of the items that pass the test
--   relied_at offsets i         the saved registers that have an offset at point i: a caller relies on them at a call
--   begun entry regs            the activation of the entry procedure, at a start with these registers
--   called target next relied regs   the activation that a call opens
--   Stack                       the activations: the earlier ones, from the first on, and the last one
--   TurnsBy flow i offsets regs next a b, and as a record Turned
--                               a step at point i with this flow, from these registers to the address next,
--                               takes the activations a to b: a call opens one, a return to the last one's return address
--                               closes it, and every other step leaves them
--   Leaves flow next a          the step is a return that goes elsewhere, or one of the first activation
--   slot_address a below        the address of the slot so many bytes below the entry's sp, modulo 2^64
--   slot_in depth a item        a tracked name, with its position, as a slot of the activation at this depth
--   slots_of names depth a      the live slots of the activation at this depth
--   slots_from names depth as   those of activations at this depth and the following ones
--   word_of a m name            the word of a name: the register's, or that of a slot of the activation's procedure, else 0
--   AreValuesTo n names a m values   values has the words of the first n names, 0 behind them, and 1 at position 16
--   AreValues names a m values  values has the names' words, 0 behind them, and 1 at position 16
use Rattle.std.specs.Prelude.{◌≡◌, ◌≢◌, ◌⊎◌, ℕ, ◌+◌, ◌-◌, ◌*◌, ◌%◌, ◌^◌, ◌<◌, ◌≤◌, ◌==◌, Bool, is_some, List, [], ◌∷◌, ◌++◌, length, map, filter_map, slice_index, slice_index_or, Option, None, Some, if◌then◌else◌}
use Rattle.std.specs.List.{enumerate_from}
use Rattle.elf_image.specs.Fetches.{read}
use Rattle.flow_points.specs.declared.code_points.Flow.{Flow}
use Rattle.flow_points.specs.declared.code_points.Flow.TheVariants.{Call, Return}
use Rattle.frame_offsets.specs.Frames.{offset_at}
use Rattle.report_text.specs.declared.names.Name.{Name}
use Rattle.report_text.specs.declared.names.Name.TheVariants.{Register, Slot}
use Rattle.rv_step.specs.Harts.{Hart, x}
use Rattle.word_rows.specs.Rows.{words_of}
use Rattle.run_watch.specs.declared.places.SlotAt.{SlotAt}
use Rattle.run_watch.specs.declared.activation.Activation.{Activation}

abbrev pub saved_registers : List ℕ
saved_registers = 8 ∷ 9 ∷ 18 ∷ 19 ∷ 20 ∷ 21 ∷ 22 ∷ 23 ∷ 24 ∷ 25 ∷ 26 ∷ 27 ∷ []

abbrev pub saved_words : List ℕ → List ℕ
saved_words regs = map (λ r. slice_index regs r) saved_registers

abbrev pub mask_of : (ℕ → Bool) → List ℕ → ℕ
mask_of test [] = 0
mask_of test (r ∷ rs) = (if test r then 1 else 0) + 2 * mask_of test rs

abbrev pub relied_at : List (Option ℕ) → ℕ → ℕ
relied_at offsets i = mask_of (λ r. is_some (offset_at offsets i r)) saved_registers

abbrev pub begun : ℕ → List ℕ → Activation
begun entry regs = record {
  procedure = entry;
  entry_sp = slice_index regs 2;
  return_to = None;
  saved = saved_words regs;
  relied = 0;
}

abbrev pub called : ℕ → ℕ → ℕ → List ℕ → Activation
called target next relied regs = record {
  procedure = target;
  entry_sp = slice_index regs 2;
  return_to = Some next;
  saved = saved_words regs;
  relied = relied;
}

pub record Stack : Type 0 where
  pub earlier : List Activation
  pub last : Activation

abbrev pub slot_address : Activation → ℕ → ℕ
slot_address a below = (a.entry_sp + (2 ^ 64 - below)) % 2 ^ 64

abbrev pub slot_in : ℕ → Activation → ℕ × Name → Option SlotAt
slot_in depth a (k, Register r) = None
slot_in depth a (k, Slot p below) =
    if p == a.procedure then Some (record { depth = depth; position = k; address = slot_address a below }) else None

abbrev pub slots_of : List Name → ℕ → Activation → List SlotAt
slots_of names depth a = filter_map (slot_in depth a) (enumerate_from 0 names)

abbrev pub slots_from : List Name → ℕ → List Activation → List SlotAt
slots_from names depth [] = []
slots_from names depth (a ∷ activations) = slots_of names depth a ++ slots_from names (depth + 1) activations

abbrev pub word_of : Activation → Hart → Name → ℕ
word_of a m (Register r) = x m r
word_of a m (Slot p below) = if p == a.procedure then read 8 m.memory (slot_address a below) else 0

pub record AreValuesTo (n : ℕ) (names : List Name) (a : Activation) (m : Hart) (values : List ℕ) : Type 0 where
  pub width : length values ≡ 17
  pub named : (k : ℕ) (d : Name) → k < n → slice_index values k ≡ word_of a m (slice_index_or names k d)
  pub others : (k : ℕ) → n ≤ k → k < 16 → slice_index values k ≡ 0
  pub constant : slice_index values 16 ≡ 1

pub record AreValues (names : List Name) (a : Activation) (m : Hart) (values : List ℕ) : Type 0 where
  pub words : words_of values ≡ values
  pub all : AreValuesTo (length names) names a m values

abbrev pub TurnsBy : Flow → ℕ → List (Option ℕ) → List ℕ → ℕ → Stack → Stack → Type 0
TurnsBy (Call target after) i offsets regs next a b =
    (b.earlier ≡ a.earlier ++ a.last ∷ []) × (b.last ≡ called target after (relied_at offsets i) regs)
TurnsBy Return i offsets regs next a b = (a.last.return_to ≡ Some next) × (a.earlier ≡ b.earlier ++ b.last ∷ [])
TurnsBy flow i offsets regs next a b = (b.earlier ≡ a.earlier) × (b.last ≡ a.last)

pub record Turned (flow : Flow) (i : ℕ) (offsets : List (Option ℕ)) (regs : List ℕ) (next : ℕ) (a b : Stack) : Type 0 where
  pub turns : TurnsBy flow i offsets regs next a b

pub record Leaves (flow : Flow) (next : ℕ) (a : Stack) : Type 0 where
  pub is_return : flow ≡ Return
  pub elsewhere : (a.last.return_to ≢ Some next) ⊎ (a.earlier ≡ [])
