-- What instructions give to registers: the value of the effect is what the machine writes.
use Rattle.std.proofs.Common.{◌≡◌, ℕ, zero, suc, ◌+◌, ◌-◌, ◌*◌, ◌%◌, ◌^◌, ◌<◌, ◌==◌, ℤ, pos, negsuc, Bool, true, false, bit_and, bit_or, bit_xor, List, slice_get, slice_index, position, Option, None, Some, refl, ap, sym, ◌∙◌, arith, if◌then◌else◌, ◌&&◌}
use Rattle.std.specs.Int.{cast_unsigned, w64}
use Rattle.std.specs.Int.Bits.{and_zero_l, and_zero_r, or_zero_l, or_zero_r, xor_zero_l, xor_zero_r, xor_add_and}
use Rattle.std.specs.Option.{option_map_or}
use Rattle.std.proofs.lemmas.Bool.{eqb-true, eq-eqb}
use Rattle.std.proofs.lemmas.Nat.{and_mask}
use Rattle.word_rows.specs.Words.{word}
use Rattle.elf_image.specs.Fetches.{read}
use Rattle.rv_instr.specs.declared.ImmOp.{ImmOp}
use Rattle.rv_instr.specs.declared.ImmOp.TheVariants.{Addi, Slti, Sltiu, Xori, Ori, Andi, Addiw}
use Rattle.rv_instr.specs.declared.ShiftOp.{ShiftOp}
use Rattle.rv_instr.specs.declared.ShiftOp.TheVariants.{Slli, Srli, Srai, Slliw, Srliw, Sraiw}
use Rattle.rv_instr.specs.declared.RegOp.{RegOp}
use Rattle.rv_instr.specs.declared.RegOp.TheVariants.{Add, Sub, Sll, Slt, Sltu, Xor, Srl, Sra, Or, And, Mul, Mulh, Mulhsu, Mulhu, Div, Divu, Rem, Remu, Addw, Subw, Sllw, Srlw, Sraw, Mulw, Divw, Divuw, Remw, Remuw}
use Rattle.rv_instr.specs.declared.LoadOp.{LoadOp}
use Rattle.rv_instr.specs.declared.LoadOp.TheVariants.{Lb, Lh, Lw, Ld, Lbu, Lhu, Lwu}
use Rattle.report_text.specs.declared.names.Name.{Name}
use Rattle.report_text.specs.declared.names.Name.TheVariants.{Register, Slot}
use Rattle.rv_step.specs.Results.{reg_result, imm_result, shift_result}
use Rattle.rv_step.specs.Steps.{loaded as loaded_by}
use Rattle.affine_lift.specs.declared.value.Value.{Value}
use Rattle.affine_lift.specs.declared.value.Value.TheVariants.{Linear, Held, Unknown}
use Rattle.affine_lift.specs.Values.{as_word, constant, imm_value, multiple, reg_value, shift_value}
use Rattle.affine_lift.specs.FrameSlots.{is_slot_at, loaded, slot_offset}
use Rattle.affine_lift.proofs.Cited.{position_within}
use Rattle.run_paths.specs.Activations.{Activation, behind, slot_address, word_of}
use Rattle.run_paths.proofs.Numbers.{IsShort, sum_word, difference_word}

-- the value of a result is this word, in an activation with these registers and this memory
abbrev pub Gives : List Name → Activation → List ℕ → (ℕ → ℕ) → Value → ℕ → Type 0
Gives names a regs memory (Linear f g c) w =
    word (f.factor * slice_index regs f.register + g.factor * slice_index regs g.register + c) ≡ word w
Gives names a regs memory (Held k) w = (name : Name) × (slice_get names k ≡ Some name) × (word (word_of a regs memory name) ≡ word w)
Gives names a regs memory Unknown w = Unit {0}

module _ (names : List Name) (a : Activation) (regs : List ℕ) (memory : ℕ → ℕ) (zero_is : slice_index regs 0 ≡ 0)
    (words : (r : ℕ) → slice_index regs r < 2 ^ 64) where
  pub gives_constant : (c : ℕ) → Gives names a regs memory (constant c) c
  gives_constant c = ap word (let e : 0 * slice_index regs 0 + 0 * slice_index regs 0 + c ≡ c = omega arith in e)

  gives_multiple : (factor r w : ℕ) → word (factor * slice_index regs r) ≡ word w → Gives names a regs memory (multiple factor r) w
  gives_multiple factor r w e =
      ap word (let e : factor * slice_index regs r + 0 * slice_index regs 0 + 0 ≡ factor * slice_index regs r = omega arith in e) ∙ e

  inverted : (b : ℕ) → b < 2 ^ 64 → (2 ^ 64 - 1) * b + (2 ^ 64 - 1) ≡ bit_xor b (2 ^ 64 - 1) + 2 ^ 64 * b
  inverted b small =
      let sum = xor_add_and b (2 ^ 64 - 1) in
      let mask = and_mask b 64 in
      omega arith

  pub gives_imm : (op : ImmOp) (r : ℕ) (imm : ℤ) → IsShort imm → Gives names a regs memory (imm_value op r imm) (imm_result op (slice_index regs r) imm)
  gives_imm Addi r imm short =
      ap word (let e : 1 * slice_index regs r + 0 * slice_index regs 0 + as_word imm ≡ slice_index regs r + cast_unsigned w64 imm = omega arith in e)
      ∙ (let e : word (slice_index regs r + cast_unsigned w64 imm) ≡ word (word (slice_index regs r + cast_unsigned w64 imm)) = omega arith in e)
      ∙ ap word (sym (sum_word (slice_index regs r) imm (words r) short))
  gives_imm Xori r (negsuc zero) short =
      let x = slice_index regs r in
      let e = inverted x (words r) in
      let f : (2 ^ 64 - 1) * x + 0 * slice_index regs 0 + (2 ^ 64 - 1) ≡ bit_xor x (2 ^ 64 - 1) + 2 ^ 64 * x = omega arith in
      ap word f ∙ (let g : word (bit_xor x (2 ^ 64 - 1) + 2 ^ 64 * x) ≡ word (bit_xor x (2 ^ 64 - 1)) = omega arith in g)
  gives_imm Xori r (negsuc (suc n)) short = tt
  gives_imm Xori r (pos n) short = tt
  gives_imm Slti r imm short = tt
  gives_imm Sltiu r imm short = tt
  gives_imm Ori r imm short = tt
  gives_imm Andi r imm short = tt
  gives_imm Addiw r imm short = tt

  pub gives_shift : (op : ShiftOp) (r by : ℕ) → Gives names a regs memory (shift_value op r by) (shift_result op (slice_index regs r) by)
  gives_shift Slli r by =
      gives_multiple (2 ^ by) r _ (let p = 2 ^ by in let x = slice_index regs r in
      let e : word (p * x) ≡ word (word (x * p)) = swapped p x in e)
    where
      swapped : (p x : ℕ) → word (p * x) ≡ word (word (x * p))
      swapped p x = let e : p * x ≡ x * p = omega arith in ap word e ∙ (let f : word (x * p) ≡ word (word (x * p)) = omega arith in f)
  gives_shift Srli r by = tt
  gives_shift Srai r by = tt
  gives_shift Slliw r by = tt
  gives_shift Srliw r by = tt
  gives_shift Sraiw r by = tt

  -- an operation with register zero
  same_multiple : (r w : ℕ) → slice_index regs r ≡ w → Gives names a regs memory (multiple 1 r) w
  same_multiple r w e = gives_multiple 1 r w (ap word (let f : 1 * slice_index regs r ≡ slice_index regs r = omega arith in f ∙ e))

  beside : (op : ℕ → ℕ → ℕ) (r s : ℕ) (left right : Bool) → (s == 0) ≡ right → (r == 0) ≡ left
      → ((n : ℕ) → op n 0 ≡ n) → ((n : ℕ) → op 0 n ≡ n)
      → Gives names a regs memory (option_map_or (multiple 1) (if right then Some r else if left then Some s else None) Unknown)
      (op (slice_index regs r) (slice_index regs s))
  beside op r s left true zero_right zero_left on_right on_left =
      let none = ap (slice_index regs) (eqb-true s 0 zero_right) ∙ zero_is in
      same_multiple r _ (sym (ap (op (slice_index regs r)) none ∙ on_right (slice_index regs r)))
  beside op r s true false zero_right zero_left on_right on_left =
      let none = ap (slice_index regs) (eqb-true r 0 zero_left) ∙ zero_is in
      same_multiple s _ (sym (ap (λ (n : ℕ). op n (slice_index regs s)) none ∙ on_left (slice_index regs s)))
  beside op r s false false zero_right zero_left on_right on_left = tt

  annulled : (op : ℕ → ℕ → ℕ) (r s : ℕ) (left right : Bool) → (s == 0) ≡ right → (r == 0) ≡ left
      → ((n : ℕ) → op n 0 ≡ 0) → ((n : ℕ) → op 0 n ≡ 0)
      → Gives names a regs memory (option_map_or (λ r. constant 0) (if right then Some r else if left then Some s else None) Unknown)
      (op (slice_index regs r) (slice_index regs s))
  annulled op r s left true zero_right zero_left on_right on_left =
      let none = ap (slice_index regs) (eqb-true s 0 zero_right) ∙ zero_is in
      gives_constant 0 ∙ ap word (sym (ap (op (slice_index regs r)) none ∙ on_right (slice_index regs r)))
  annulled op r s true false zero_right zero_left on_right on_left =
      let none = ap (slice_index regs) (eqb-true r 0 zero_left) ∙ zero_is in
      gives_constant 0 ∙ ap word (sym (ap (λ (n : ℕ). op n (slice_index regs s)) none ∙ on_left (slice_index regs s)))
  annulled op r s false false zero_right zero_left on_right on_left = tt

  gives_sum : (x y : ℕ) → word (1 * x + 1 * y + 0) ≡ word (word (x + y))
  gives_sum x y = omega arith

  gives_difference : (x y w : ℕ) → y < 2 ^ 64 → w ≡ (x + (2 ^ 64 - y)) % 2 ^ 64 → word (1 * x + (2 ^ 64 - 1) * y + 0) ≡ word w
  gives_difference x y w small e = omega arith

  pub gives_reg : (op : RegOp) (r s : ℕ) → Gives names a regs memory (reg_value op r s) (reg_result op (slice_index regs r) (slice_index regs s))
  gives_reg Add r s = gives_sum (slice_index regs r) (slice_index regs s)
  gives_reg Sub r s = gives_difference (slice_index regs r) (slice_index regs s) _ (words s) (difference_word (slice_index regs r) (slice_index regs s) (words r) (words s))
  gives_reg Or r s = beside bit_or r s (r == 0) (s == 0) refl refl or_zero_r or_zero_l
  gives_reg Xor r s = beside bit_xor r s (r == 0) (s == 0) refl refl xor_zero_r xor_zero_l
  gives_reg And r s = annulled bit_and r s (r == 0) (s == 0) refl refl and_zero_r and_zero_l
  gives_reg Mul r s = annulled (λ x y. word (x * y)) r s (r == 0) (s == 0) refl refl (λ n. times_zero n) (λ n. zero_times n)
    where
      times_zero : (n : ℕ) → word (n * 0) ≡ 0
      times_zero n = ap word (let e : n * 0 ≡ 0 = omega arith in e)

      zero_times : (n : ℕ) → word (0 * n) ≡ 0
      zero_times n = ap word (let e : 0 * n ≡ 0 = omega arith in e)
  gives_reg Sll r s = tt
  gives_reg Slt r s = tt
  gives_reg Sltu r s = tt
  gives_reg Srl r s = tt
  gives_reg Sra r s = tt
  gives_reg Mulh r s = tt
  gives_reg Mulhsu r s = tt
  gives_reg Mulhu r s = tt
  gives_reg Div r s = tt
  gives_reg Divu r s = tt
  gives_reg Rem r s = tt
  gives_reg Remu r s = tt
  gives_reg Addw r s = tt
  gives_reg Subw r s = tt
  gives_reg Sllw r s = tt
  gives_reg Srlw r s = tt
  gives_reg Sraw r s = tt
  gives_reg Mulw r s = tt
  gives_reg Divw r s = tt
  gives_reg Divuw r s = tt
  gives_reg Remw r s = tt
  gives_reg Remuw r s = tt

  -- a load of exactly a tracked slot
  slot_is : (p e : ℕ) (name : Name) → is_slot_at p e name ≡ true → (n : ℕ) × (name ≡ Slot p n) × (e ≡ slot_offset n)
  slot_is p e (Register r) h = cc
  slot_is p e (Slot q n) h = by (q == p) refl h
    where
      by : (b : Bool) → (q == p) ≡ b → (b && (e == slot_offset n)) ≡ true → (m : ℕ) × (Slot q n ≡ Slot p m) × (e ≡ slot_offset m)
      by true same there = (n, ap (λ (x : ℕ). Slot x n) (eqb-true q p same), eqb-true e (slot_offset n) there)
      by false same there = cc

  own_word : (p n : ℕ) → p ≡ a.procedure → word_of a regs memory (Slot p n) ≡ read 8 memory (slot_address a n)
  own_word p n own = ap (λ (b : Bool). if b then read 8 memory (slot_address a n) else 0) (eq-eqb p a.procedure own)

  pub gives_loaded : (op : LoadOp) (p address : ℕ) (access : Option ℕ) → p ≡ a.procedure
      → ((e : ℕ) → access ≡ Some e → address ≡ behind a.entry_sp e)
      → Gives names a regs memory (loaded names p op access) (loaded_by op memory address)
  gives_loaded Ld p address None own at = tt
  gives_loaded Ld p address (Some e) own at = by (position (is_slot_at p e) names) refl
    where
      by : (o : Option ℕ) → position (is_slot_at p e) names ≡ o → Gives names a regs memory (option_map_or Held o Unknown) (read 8 memory address)
      by None place = tt
      by (Some k) place =
          let found = position_within (is_slot_at p e) names k place in
          let slot = slot_is p e found.0 found.2 in
          let here : address ≡ slot_address a slot.0 = at e refl ∙ ap (behind a.entry_sp) slot.2 ∙ (let f : behind a.entry_sp (slot_offset slot.0) ≡ slot_address a slot.0 = omega arith in f) in
          (found.0, found.1, ap (λ (x : Name). word (word_of a regs memory x)) slot.1 ∙ ap word (own_word p slot.0 own ∙ ap (read 8 memory) (sym here)))
  gives_loaded Lb p address access own at = tt
  gives_loaded Lh p address access own at = tt
  gives_loaded Lw p address access own at = tt
  gives_loaded Lbu p address access own at = tt
  gives_loaded Lhu p address access own at = tt
  gives_loaded Lwu p address access own at = tt
