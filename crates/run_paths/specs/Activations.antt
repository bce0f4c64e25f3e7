-- The activations of a run: which procedures are open at a moment, the last one opened first. A run maps each moment, from
-- 0 on, to a machine; step i leads from moment i to moment i + 1.
--
--   Site                          a call: the point from which it was made, and the address behind it
--   Activation                    an open procedure: its entry, sp at its entry, the call that opened it, none for the first
--                                 one, and the registers of the moment of that call
--   begun lift m                  the activation of the entry procedure, at the moment 0
--   called c target next m        the activation of a call from the point c
--   turned_by c flow m activations, and turned c m activations by the flow of c
--                                 the activations after a step from the point c: a call opens one, a return closes the last
--                                 one, and every other step leaves them
--   point_of lift m activations   the point where a machine is: its pc, in the procedure of the last activation
--   activations_at lift run i     the activations at the moment i
--   point_at lift run i           the run's point at the moment i
--   behind address k              the address k bytes behind, modulo 2^64
--   slot_address a below          the address of a slot of an activation: its entry sp less the slot's distance
--   HasSlot lift a k address      the name at position k is a slot of the activation's procedure, and it stands at this
--                                 address: a live slot, while the activation is open
--   word_of a registers memory name   the word of a name: the register's, the eight bytes' of a slot of the activation's
--                                 procedure, and 0 for a slot of another
--   state_of lift a registers memory  the words of all names, and 1 for the constant
--   register_word registers name  the word of a register, and 0 for a slot
--   start_of lift m               the state from which the run starts: the words of the registers, 0 for slots
use Rattle.std.specs.Prelude.{◌≡◌, ℕ, zero, suc, ◌+◌, ◌-◌, ◌%◌, ◌^◌, ◌==◌, List, [], ◌∷◌, drop, find, slice_get, slice_index, Option, None, Some, if◌then◌else◌}
use Rattle.std.specs.Option.{option_map_or}
use Rattle.elf_image.specs.Fetches.{read}
use Rattle.map_modules.specs.Matrices.{vector}
use Rattle.flow_points.specs.Walks.{point}
use Rattle.flow_points.specs.declared.code_points.CodePoint.{CodePoint}
use Rattle.flow_points.specs.declared.code_points.Flow.{Flow}
use Rattle.flow_points.specs.declared.code_points.Flow.TheVariants.{Call, Return}
use Rattle.report_text.specs.declared.names.Name.{Name}
use Rattle.report_text.specs.declared.names.Name.TheVariants.{Register, Slot}
use Rattle.rv_step.specs.Harts.{Hart, x}
use Rattle.affine_lift.specs.Lifting.{is_at}
use Rattle.run_paths.specs.Lifts.{Lift}

pub record Site : Type 0 where
  pub from : CodePoint
  pub next : ℕ

pub record Activation : Type 0 where
  pub procedure : ℕ
  pub entry_sp : ℕ
  pub call : Option Site
  pub registers : List ℕ

abbrev pub begun : Lift → Hart → Activation
begun lift m = record { procedure = lift.points.entry; entry_sp = x m 2; call = None; registers = m.registers }

abbrev pub called : CodePoint → ℕ → ℕ → Hart → Activation
called c target next m = record {
  procedure = target;
  entry_sp = x m 2;
  call = Some (record { from = c; next = next });
  registers = m.registers;
}

abbrev pub turned_by : CodePoint → Flow → Hart → List Activation → List Activation
turned_by c (Call target next) m activations = called c target next m ∷ activations
turned_by c Return m activations = drop 1 activations
turned_by c flow m activations = activations

abbrev pub turned : Option CodePoint → Hart → List Activation → List Activation
turned None m activations = activations
turned (Some c) m activations = turned_by c c.flow m activations

abbrev pub point_of : Lift → Hart → List Activation → Option CodePoint
point_of lift m [] = None
point_of lift m (last ∷ earlier) = find (is_at (point last.procedure m.pc)) lift.points.points

abbrev pub activations_at : Lift → (ℕ → Hart) → ℕ → List Activation
activations_at lift run zero = begun lift (run 0) ∷ []
activations_at lift run (suc i) = turned (point_of lift (run i) (activations_at lift run i)) (run i) (activations_at lift run i)

abbrev pub point_at : Lift → (ℕ → Hart) → ℕ → Option CodePoint
point_at lift run i = point_of lift (run i) (activations_at lift run i)

abbrev pub behind : ℕ → ℕ → ℕ
behind address k = (address + k) % 2 ^ 64

abbrev pub slot_address : Activation → ℕ → ℕ
slot_address a below = behind a.entry_sp (2 ^ 64 - below)

pub record HasSlot (lift : Lift) (a : Activation) (k address : ℕ) : Type 0 where
  pub below : ℕ
  pub name : slice_get lift.names k ≡ Some (Slot a.procedure below)
  pub is : address ≡ slot_address a below

abbrev pub word_of : Activation → List ℕ → (ℕ → ℕ) → Name → ℕ
word_of a registers memory (Register r) = slice_index registers r
word_of a registers memory (Slot p below) = if p == a.procedure then read 8 memory (slot_address a below) else 0

abbrev pub state_of : Lift → Activation → List ℕ → (ℕ → ℕ) → List ℕ
state_of lift a registers memory =
    vector (λ k. if k == 16 then 1 else option_map_or (word_of a registers memory) (slice_get lift.names k) 0)

abbrev pub register_word : List ℕ → Name → ℕ
register_word registers (Register r) = slice_index registers r
register_word registers (Slot p below) = 0

abbrev pub start_of : Lift → Hart → List ℕ
start_of lift m = vector (λ k. if k == 16 then 1 else option_map_or (register_word m.registers) (slice_get lift.names k) 0)
