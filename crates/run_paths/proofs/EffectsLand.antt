-- One instruction: what its effect makes of the state of the last activation is what the machine made of it.
use Rattle.std.proofs.Common.{◌≡◌, ℕ, ◌+◌, ◌^◌, ◌<◌, ◌≤◌, ℤ, pos, negsuc, ◌+ℤ◌, Bool, true, List, [], ◌++◌, length, map, Contains, slice_get, slice_index, Option, None, Some, option_map, inl, inr, refl, ap, sym, ◌∙◌, arith, subst, if◌then◌else◌, ◌==◌}
use Rattle.std.proofs.lemmas.Int.{ints}
use Rattle.std.proofs.lemmas.List.{append-nil}
use Rattle.std.proofs.lemmas.Bool.{cases_lt, eqb-true, eq-eqb}
use Rattle.elf_image.specs.Fetches.{read}
use Rattle.elf_image.specs.declared.image.Image.{Image}
use Rattle.word_rows.specs.Words.{word}
use Rattle.map_modules.proofs.Entries.{IsRow-vector}
use Rattle.affine_prog.specs.Assignments.{position_of}
use Rattle.affine_prog.specs.declared.Assign.{Assign}
use Rattle.rv_decode.specs.Instructions.{IsWellFormed, IsWithin}
use Rattle.rv_instr.specs.declared.Instr.{Instr}
use Rattle.rv_instr.specs.declared.Instr.TheVariants.{Lui, Auipc, Jal, Jalr, Branch, Load, Store, Imm, Shift, Reg, Fence, Ecall, Ebreak}
use Rattle.rv_instr.specs.declared.StoreOp.{StoreOp}
use Rattle.rv_instr.specs.declared.StoreOp.TheVariants.{Sb, Sh, Sw, Sd}
use Rattle.flow_points.specs.Flows.{plus}
use Rattle.flow_points.specs.declared.code_points.CodePoint.{CodePoint}
use Rattle.report_text.specs.declared.names.Name.{Name}
use Rattle.report_text.specs.declared.names.Name.TheVariants.{Register, Slot}
use Rattle.rv_step.specs.Harts.{Hart, x}
use Rattle.rv_step.specs.Effects.{written, stored}
use Rattle.rv_step.specs.Steps.{Executes, store_width}
use Rattle.rv_step.specs.Words as machine
use Rattle.rv_step.specs.Results as results
use Rattle.rv_step.proofs.ResultsAreWords.{wrapped}
use Rattle.affine_lift.specs.declared.value.Value.{Value}
use Rattle.affine_lift.specs.declared.store.FrameStore.{FrameStore}
use Rattle.affine_lift.specs.FrameSlots.{access_of, is_whole, slot_offset, store_of, stores_of}
use Rattle.affine_lift.specs.declared.value.Value.TheVariants.{Unknown}
use Rattle.affine_lift.specs.Values.{constant, link_value, upper}
use Rattle.affine_lift.specs.Effects.{register_effect, result_in, slot_effect}
use Rattle.affine_lift.proofs.StoresWrite.{register_place}
use Rattle.run_paths.specs.Lifts.{Lift, IsLiftOf}
use Rattle.run_paths.specs.Activations.{Activation, HasSlot, behind, slot_address, state_of}
use Rattle.run_paths.specs.Discipline.{KeepsBytes, KeepsSlots}
use Rattle.run_paths.proofs.Numbers.{IsShort, sum_word, upper_word}
use Rattle.run_paths.proofs.Bytes.{read_same}
use Rattle.run_paths.proofs.States.{name_word, kept_slot, same_slots, slot_small, state_constant, state_has, state_there, below_16}
use Rattle.run_paths.proofs.Results.{Gives, gives_constant, gives_imm, gives_loaded, gives_reg, gives_shift}
use Rattle.run_paths.proofs.Storing.{word_stored}
use Rattle.run_paths.proofs.Landing.{Lands, register_lands}
use Rattle.run_paths.proofs.SlotsLand.{slots_land, store_right}

-- the effect of an instruction at the point c
abbrev pub effect_by : Lift → CodePoint → Instr → List Assign
effect_by lift c instr =
    let access = access_of instr (lift.offset c) in
    register_effect lift.names (result_in lift.names c access instr) ++ slot_effect lift.names c.point.proc_entry (store_of instr access)

-- but for slots that are assigned the slots of an activation are kept
abbrev pub KeepsOthers : Lift → List Assign → Hart → Hart → Activation → Type 0
KeepsOthers lift assigns m n a =
    (k address : ℕ) → HasSlot lift a k address → (Contains (map position_of assigns) k → ⊥) → KeepsBytes 8 m n address

-- what is known of the machine before: it is at the point c of the activation a, where known offsets are right
pub record IsAtPoint (lift : Lift) (a : Activation) (c : CodePoint) (m : Hart) : Type 0 where
  pub at : m.pc ≡ c.point.address
  pub owner : c.point.proc_entry ≡ a.procedure
  pub count : length m.registers ≡ 32
  pub zero_is : x m 0 ≡ 0
  pub words : (r : ℕ) → x m r < 2 ^ 64
  pub known : (r o : ℕ) → r < 32 → lift.offset c r ≡ Some o → x m r ≡ behind a.entry_sp o

pub IsShort-within : (k : ℕ) (z : ℤ) → k ≤ 2 ^ 63 → IsWithin k z → IsShort z
IsShort-within k (pos n) small within = let below = within.1 in omega (arith, ints)
IsShort-within k (negsuc n) small within = let above = within.0 in omega (arith, ints)

module _ (image : Image) (lift : Lift) (is : IsLiftOf image lift) (a : Activation) (c : CodePoint) (m n : Hart) (here : IsAtPoint lift a c m) where
  abbrev pub before : List ℕ
  before = state_of lift a m.registers m.memory

  abbrev pub after : List ℕ
  after = state_of lift a n.registers n.memory

  -- the register r gets the value w
  result_lands : (r w : ℕ) (value : Value) → n.registers ≡ written m.registers r w → Gives lift.names a m.registers m.memory value w
      → KeepsOthers lift (register_effect lift.names (Some (r, value)) ++ []) m n a
      → Lands (register_effect lift.names (Some (r, value)) ++ []) before after
  result_lands r w value now gives keeps =
      let assigns = register_effect lift.names (Some (r, value)) in
      let kept : KeepsSlots lift m n a = λ k address slot.
      keeps k address slot (λ there. register_place lift.names (Some (r, value)) k
      (subst (λ (assigns : List Assign). Contains (map position_of assigns) k) (append-nil assigns) there)
      (a.procedure, slot.below, slot.name)) in
      let same : state_of lift a (written m.registers r w) m.memory ≡ after =
      same_slots lift m n a (written m.registers r w) kept ∙ ap (λ (regs : List ℕ). state_of lift a regs n.memory) (sym now) in
      subst (λ (assigns : List Assign). Lands assigns before after) (sym (append-nil assigns))
      (subst (Lands assigns before) same (register_lands image lift is a m.registers m.memory here.count here.zero_is r w value gives))

  nothing_lands : n.registers ≡ m.registers → KeepsOthers lift [] m n a → Lands [] before after
  nothing_lands now keeps =
      same_slots lift m n a m.registers (λ k address slot. keeps k address slot (λ there. omega (arith, there.1)))
      ∙ ap (λ (regs : List ℕ). state_of lift a regs n.memory) (sym now)

  address_known : (r : ℕ) (imm : ℤ) (e : ℕ) → r < 32 → IsShort imm → option_map (λ o. plus o imm) (lift.offset c r) ≡ Some e
      → machine.word (pos (x m r) +ℤ imm) ≡ behind a.entry_sp e
  address_known r imm e low short is_e = by (lift.offset c r) refl is_e
    where
      by : (o : Option ℕ) → lift.offset c r ≡ o → option_map (λ o. plus o imm) o ≡ Some e → machine.word (pos (x m r) +ℤ imm) ≡ behind a.entry_sp e
      by None known none = cc
      by (Some o) known some =
          let same : plus o imm ≡ e = cc in
          sum_word (x m r) imm (here.words r) short ∙ ap (λ (w : ℕ). plus w imm) (here.known r o low known) ∙ sums a.entry_sp o imm
          ∙ ap (behind a.entry_sp) same
        where
          sums : (sp o : ℕ) (z : ℤ) → plus (behind sp o) z ≡ behind sp (plus o z)
          sums sp o z = omega arith

  -- a store at a known offset
  store_lands : (op : StoreOp) (address r e : ℕ) → n.registers ≡ m.registers → address < 2 ^ 64 → address ≡ behind a.entry_sp e
      → ((b : ℕ) → b < 2 ^ 64 → n.memory b ≡ stored (store_width op) address (x m r) m.memory b)
      → let s : FrameStore = record { op = op; offset = e; register = r } in
      KeepsOthers lift (stores_of lift.names c.point.proc_entry s) m n a → Lands (stores_of lift.names c.point.proc_entry s) before after
  store_lands op address r e now small at made keeps =
      let s : FrameStore = record { op = op; offset = e; register = r } in
      slots_land image lift is m.registers after here.zero_is (IsRow-vector _) (stores_of lift.names c.point.proc_entry s) before (IsRow-vector _)
      (state_has image lift is a m.registers m.memory)
      (store_right image lift is m.registers after here.zero_is (IsRow-vector _) c.point.proc_entry s whole)
      agree
    where
      whole : (k below : ℕ) → slice_get lift.names k ≡ Some (Slot c.point.proc_entry below) → is_whole op ≡ true → e ≡ slot_offset below
          → slice_index after k ≡ word (x m r)
      whole k below named sd exact =
          let low = below_16 image lift is k (Slot c.point.proc_entry below) named in
          let there : slot_address a below ≡ address = sym (at ∙ ap (behind a.entry_sp) exact ∙ (let f : behind a.entry_sp (slot_offset below) ≡ slot_address a below = omega arith in f)) in
          state_there lift a n.registers n.memory k low
          ∙ ap (λ (o : Option Name). word (name_word a n.registers n.memory o)) named
          ∙ ap (λ (b : Bool). word (if b then read 8 n.memory (slot_address a below) else 0)) (eq-eqb c.point.proc_entry a.procedure here.owner)
          ∙ ap (λ (b : ℕ). word (read 8 n.memory b)) there
          ∙ ap word (word_stored m.memory n.memory address (x m r) small (here.words r) (eight op sd made))
        where
          eight : (op : StoreOp) → is_whole op ≡ true
              → ((b : ℕ) → b < 2 ^ 64 → n.memory b ≡ stored (store_width op) address (x m r) m.memory b)
              → (b : ℕ) → b < 2 ^ 64 → n.memory b ≡ stored 8 address (x m r) m.memory b
          eight Sd sd made = made
          eight Sb sd made = cc
          eight Sh sd made = cc
          eight Sw sd made = cc

      agree : (k : ℕ) → k < 17 → (Contains (map position_of (stores_of lift.names c.point.proc_entry (record { op = op; offset = e; register = r }))) k → ⊥)
          → slice_index before k ≡ slice_index after k
      agree k below absent =
          elim (cases_lt k 16) [
            | inl low ↦ state_there lift a m.registers m.memory k low ∙ by (slice_get lift.names k) refl ∙ sym (state_there lift a n.registers n.memory k low)
            | inr last ↦
                let same : k ≡ 16 = omega arith in
                ap (slice_index before) same ∙ state_constant lift a m.registers m.memory ∙ sym (ap (slice_index after) same ∙ state_constant lift a n.registers n.memory)
          ]
        where
          by : (o : Option Name) → slice_get lift.names k ≡ o → word (name_word a m.registers m.memory o) ≡ word (name_word a n.registers n.memory o)
          by None at = refl
          by (Some (Register q)) at = ap (λ (regs : List ℕ). word (slice_index regs q)) (sym now)
          by (Some (Slot p distance)) at =
              ap word (kept_slot (p == a.procedure) m.memory n.memory (slot_address a distance) (λ own.
              read_same 8 m.memory n.memory (slot_address a distance) (slot_small a distance)
              (keeps k (slot_address a distance) (record { below = distance; name = at ∙ ap (λ (q : ℕ). Some (Slot q distance)) (eqb-true p a.procedure own); is = refl }) absent)))

  -- whatever the instruction is
  pub instr_lands : (instr : Instr) (next : ℕ) → IsWellFormed instr → KeepsOthers lift (effect_by lift c instr) m n a → Executes instr next m n
      → Gives lift.names a m.registers m.memory (link_value c.flow) next → Lands (effect_by lift c instr) before after
  instr_lands (Lui rd imm) next formed keeps made link =
      result_lands rd (results.upper imm) (constant (upper imm)) made.registers
      (subst (Gives lift.names a m.registers m.memory (constant (upper imm))) (sym (upper_word imm))
      (gives_constant lift.names a m.registers m.memory here.zero_is here.words (upper imm))) keeps
  instr_lands (Auipc rd imm) next formed keeps made link =
      result_lands rd (machine.word (pos (m.pc + results.upper imm))) (constant (word (c.point.address + upper imm))) made.registers
      (subst (Gives lift.names a m.registers m.memory (constant (word (c.point.address + upper imm)))) (sym auipc)
      (gives_constant lift.names a m.registers m.memory here.zero_is here.words (word (c.point.address + upper imm)))) keeps
    where
      auipc : machine.word (pos (m.pc + results.upper imm)) ≡ word (c.point.address + upper imm)
      auipc = ap (λ (pc : ℕ). word (pc + results.upper imm)) here.at ∙ ap (λ (u : ℕ). word (c.point.address + u)) (upper_word imm)
  instr_lands (Jal rd off) next formed keeps made link = result_lands rd next _ made.registers link keeps
  instr_lands (Jalr rd rs1 imm) next formed keeps made link = result_lands rd next _ made.registers link keeps
  instr_lands (Branch op rs1 rs2 off) next formed keeps made link = nothing_lands made.registers keeps
  instr_lands (Load op rd rs1 imm) next formed keeps made link =
      result_lands rd _ _ made.registers
      (gives_loaded lift.names a m.registers m.memory here.zero_is here.words op c.point.proc_entry _ (access_of (Load op rd rs1 imm) (lift.offset c)) here.owner
      (λ e known. address_known rs1 imm e formed.1 (IsShort-within (2 ^ 11) imm (omega arith) formed.2) known)) keeps
  instr_lands (Store op rs1 rs2 imm) next formed keeps made link = by (access_of (Store op rs1 rs2 imm) (lift.offset c)) refl keeps
    where
      by : (access : Option ℕ) → access_of (Store op rs1 rs2 imm) (lift.offset c) ≡ access
          → KeepsOthers lift (slot_effect lift.names c.point.proc_entry (store_of (Store op rs1 rs2 imm) access)) m n a
          → Lands (slot_effect lift.names c.point.proc_entry (store_of (Store op rs1 rs2 imm) access)) before after
      by None known keeps = nothing_lands made.registers keeps
      by (Some e) known keeps =
          let address = machine.word (pos (x m rs1) +ℤ imm) in
          store_lands op address rs2 e made.registers (wrapped (pos (x m rs1) +ℤ imm))
          (address_known rs1 imm e formed.0 (IsShort-within (2 ^ 11) imm (omega arith) formed.2) known) made.memory keeps
  instr_lands (Imm op rd rs1 imm) next formed keeps made link =
      result_lands rd _ _ made.registers
      (gives_imm lift.names a m.registers m.memory here.zero_is here.words op rs1 imm (IsShort-within (2 ^ 11) imm (omega arith) formed.2)) keeps
  instr_lands (Shift op rd rs1 by) next formed keeps made link =
      result_lands rd _ _ made.registers (gives_shift lift.names a m.registers m.memory here.zero_is here.words op rs1 by) keeps
  instr_lands (Reg op rd rs1 rs2) next formed keeps made link =
      result_lands rd _ _ made.registers (gives_reg lift.names a m.registers m.memory here.zero_is here.words op rs1 rs2) keeps
  instr_lands (Fence rd rs1 imm) next formed keeps made link = nothing_lands made.registers keeps
  instr_lands Ecall next formed keeps made link = result_lands 10 made.a0 Unknown made.registers tt keeps
  instr_lands Ebreak next formed keeps made link = absurd made
