-- A step, under a state that describes the machine: where it goes, and what describes the machine after it.
use Rattle.std.proofs.Common.{◌≡◌, inl, inr, ℕ, ◌+◌, ◌%◌, ◌^◌, ◌<◌, ◌==◌, ℤ, pos, ◌+ℤ◌, Bool, true, false, List, [], ◌∷◌, length, slice_index, Option, None, Some, refl, ap, ◌∙◌, arith, subst, ◌&&◌, ◌||◌}
use Rattle.std.specs.Prelude.{if◌then◌else◌}
use Rattle.std.proofs.lemmas.Bool.{eqb-true}
use Rattle.rv_instr.specs.declared.Instr.{Instr}
use Rattle.rv_instr.specs.declared.Instr.TheVariants.{Lui, Auipc, Jal, Jalr, Branch, Load, Store, Imm, Shift, Reg, Fence, Ecall, Ebreak}
use Rattle.rv_instr.specs.declared.LoadOp.TheVariants.{Lb, Lh, Lw, Ld, Lbu, Lhu, Lwu}
use Rattle.rv_instr.specs.declared.ImmOp.{ImmOp}
use Rattle.rv_instr.specs.declared.RegOp.{RegOp}
use Rattle.rv_instr.specs.declared.RegOp.TheVariants.{Add, Sub, Sll, Slt, Sltu, Xor, Srl, Sra, Or, And, Mul, Mulh, Mulhsu, Mulhu, Div, Divu, Rem, Remu, Addw, Subw, Sllw, Srlw, Sraw, Mulw, Divw, Divuw, Remw, Remuw}
use Rattle.rv_instr.specs.declared.ImmOp.TheVariants.{Addi, Slti, Sltiu, Xori, Ori, Andi, Addiw}
use Rattle.rv_step.specs.Words.{word}
use Rattle.rv_step.specs.Results.{upper, imm_result, shift_result, reg_result, is_taken}
use Rattle.rv_step.specs.Harts.{Hart, x}
use Rattle.rv_step.specs.Effects.{written, Writes}
use Rattle.rv_step.specs.Steps.{Executes, even, store_width}
use Rattle.rv_step.proofs.ResultsAreWords.{wrapped, imm_is_word, shift_is_word, reg_is_word}
use Rattle.entry_values.specs.declared.values.Value.{Value}
use Rattle.entry_values.specs.declared.values.Value.TheVariants.{Is, Any}
use Rattle.entry_values.specs.Values.{Means, FitsWord, plus}
use Rattle.entry_values.specs.declared.states.State.{State}
use Rattle.entry_values.specs.States.{value_at, put}
use Rattle.entry_values.specs.Transfers.{is_below, loaded_value, folded_one, folded_two, added, subtracted}
use Rattle.entry_values.specs.declared.flow.Flow.{Flow}
use Rattle.entry_values.specs.declared.flow.Flow.TheVariants.{On, ByTable, CallTo, Foreign, Past, Return, TailOut, Leave, Stuck, Halt}
use Rattle.entry_values.specs.Flows.{is_entry, is_zero, linked, known_jump, jump_out, unresolved, jump_flow, flow_under}
use Rattle.entry_values.specs.declared.values.Kind.TheVariants.{Environment, Narrow}
use Rattle.entry_runs.specs.Premises.{Own, own_of, Spares, IsPlaced, Among}
use Rattle.entry_runs.proofs.Computing.{folded_one_means, folded_two_means, added_means, subtracted_means}
use Rattle.entry_runs.proofs.Describing.{AreWords, Told, constant_means, plus_means, spares_all, written_told, same_told}
use Rattle.entry_runs.proofs.Leaving.{both, loaded_means}
use Rattle.entry_runs.proofs.Storing.{stored_told}

abbrev pub KeepsMemory : Hart → Hart → Type 0
KeepsMemory m n = (b : ℕ) → b < 2 ^ 64 → n.memory b ≡ m.memory b

pub record Enters (q next : ℕ) (s : State) (m n : Hart) : Type 0 where
  pub pc : n.pc ≡ q
  pub registers : n.registers ≡ written m.registers 1 next
  pub memory : KeepsMemory m n

pub record GoesHome (entry : List ℕ) (m n : Hart) : Type 0 where
  pub pc : n.pc ≡ even (slice_index entry 1)
  pub registers : n.registers ≡ m.registers
  pub memory : KeepsMemory m n

abbrev pub Follows : List ℕ → ℕ → State → Hart → Hart → Flow → Type 0
Follows entry next s m n (On targets t) = Among targets n.pc × Told entry t n
Follows entry next s m n (ByTable targets) = Told entry s n
Follows entry next s m n (CallTo q behind) = Enters q next s m n × (behind ≡ next)
Follows entry next s m n (Foreign behind) = Unit {0}
Follows entry next s m n (Past row behind t) = ⊥
Follows entry next s m n Return = GoesHome entry m n
Follows entry next s m n TailOut = Unit {0}
Follows entry next s m n Leave = Unit {0}
Follows entry next s m n Stuck = Unit {0}
Follows entry next s m n Halt = ⊥

pub plus_small : (v : Value) (z : ℤ) → FitsWord (plus v z)
plus_small (Is b k) z = search wrapped
plus_small (Any a kind) z = tt

module _ (entry : List ℕ) (s : State) (m n : Hart) (next : ℕ) (words : AreWords entry) (regs : AreWords m.registers) (wide : length s.values ≡ 32)
    (fits : (r : ℕ) → FitsWord (value_at s r)) (told : Told entry s m) (next_small : next < 2 ^ 64) where
  puts : (rd : ℕ) (v : Value) (w after : ℕ) → Means entry v w → Writes m rd w after n → Told entry (put s rd v) n
  puts rd v w after means made =
      written_told entry s m n rd v w wide regs told means made.registers (spares_all entry s.slots m n made.memory)

  onward : (rd : ℕ) (v : Value) (w : ℕ) → Means entry v w → Writes m rd w next n → Among (next ∷ []) n.pc × Told entry (put s rd v) n
  onward rd v w means made = (inl made.pc, puts rd v w next means made)

  link_means : Means entry (Is 0 next) next
  link_means = constant_means entry next words.zero_is next_small

  linked_follows : (rd target : ℕ) → Writes m rd next target n → Follows entry next s m n (linked rd target next s)
  linked_follows rd target made = by (rd == 1) refl
    where
      by : (t : Bool) → (rd == 1) ≡ t → Follows entry next s m n (if t then CallTo target next else On (target ∷ []) (put s rd (Is 0 next)))
      by false e = (inl made.pc, puts rd (Is 0 next) next target link_means made)
      by true e = (
        record {
          pc = made.pc;
          registers = made.registers ∙ ap (λ (r : ℕ). written m.registers r next) (eqb-true rd 1 e);
          memory = made.memory;
        },
        refl,
      )

  known_follows : (rd rs1 : ℕ) (imm : ℤ) (target : ℕ) → Writes m rd next target n → Follows entry next s m n (known_jump rd rs1 imm target next s)
  known_follows rd rs1 imm target made = by (rd == 0 && (rs1 == 1 && is_zero imm))
    where
      by : (t : Bool) → Follows entry next s m n (if t then Leave else linked rd target next s)
      by true = tt
      by false = linked_follows rd target made

  jumped : (rd target : ℕ) → (rd == 0) ≡ true → Writes m rd next target n → Told entry s n
  jumped rd target e made =
      same_told entry s m n told (made.registers ∙ ap (λ (r : ℕ). written m.registers r next) (eqb-true rd 0 e)) (spares_all entry s.slots m n made.memory)

  unresolved_follows : (rd rs1 : ℕ) (imm : ℤ) (guess : Option (List ℕ)) (target : ℕ) (v : Value) → Writes m rd next target n
      → Follows entry next s m n (unresolved rd rs1 imm guess next s v)
  unresolved_follows rd rs1 imm guess target v made = by (rd == 0) refl (rs1 == 1 && is_zero imm) (rd == 1 || rd == 5)
    where
      tail : (l c : Bool) → Follows entry next s m n (if l then Stuck else if c then TailOut else Stuck)
      tail true c = tt
      tail false true = tt
      tail false false = tt

      out : (g : Option (List ℕ)) → (rd == 0) ≡ true → Follows entry next s m n (jump_out g s v)
      out (Some targets) e = jumped rd target e made
      out None e = tail (is_entry 5 v) (is_entry 2 (value_at s 2) && is_entry 1 (value_at s 1))

      by : (z : Bool) → (rd == 0) ≡ z → (l c : Bool)
          → Follows entry next s m n (if z then (if l then Leave else jump_out guess s v) else if c then Foreign next else Stuck)
      by true e true c = tt
      by true e false c = out guess e
      by false e l true = tt
      by false e l false = tt

  jump_follows : (rd rs1 : ℕ) (imm : ℤ) (guess : Option (List ℕ)) (v : Value) (a : ℕ) → FitsWord v → Means entry v a → Writes m rd next (even a) n
      → Follows entry next s m n (jump_flow rd rs1 imm guess next s v)
  jump_follows rd rs1 imm guess (Any c kind) a small means made = unresolved_follows rd rs1 imm guess (even a) (Any c kind) made
  jump_follows rd rs1 imm guess (Is b k) a small means made = by (b == 0) refl (rd == 0 && (b == 1 && k == 0)) refl
    where
      by : (t : Bool) → (b == 0) ≡ t → (u : Bool) → (rd == 0 && (b == 1 && k == 0)) ≡ u
          → Follows entry next s m n (if t then known_jump rd rs1 imm (even k) next s else if u then Return else unresolved rd rs1 imm guess next s (Is b k))
      by true e u f =
          let here : a ≡ (slice_index entry 0 + k) % 2 ^ 64 = means ∙ ap (λ (c : ℕ). (slice_index entry c + k) % 2 ^ 64) (eqb-true b 0 e) in
          let zero_is = words.zero_is in
          let same : a ≡ k = omega arith in
          known_follows rd rs1 imm (even k) (subst (λ (c : ℕ). Writes m rd next (even c) n) same made)
      by false e false f = unresolved_follows rd rs1 imm guess (even a) (Is b k) made
      by false e true f =
          let parts = both (rd == 0) (b == 1 && k == 0) f in
          let sides = both (b == 1) (k == 0) parts.1 in
          let here : a ≡ (slice_index entry 1 + k) % 2 ^ 64 = means ∙ ap (λ (c : ℕ). (slice_index entry c + k) % 2 ^ 64) (eqb-true b 1 sides.0) in
          let none = eqb-true k 0 sides.1 in
          let fits = words.words 1 in
          let same : a ≡ slice_index entry 1 = omega arith in
          record {
            pc = made.pc ∙ ap even same;
            registers = made.registers ∙ ap (λ (r : ℕ). written m.registers r next) (eqb-true rd 0 parts.0);
            memory = made.memory;
          }

  address_means : (rs1 : ℕ) (imm : ℤ) → Means entry (plus (value_at s rs1) imm) (word (pos (x m rs1) +ℤ imm))
  address_means rs1 imm = plus_means entry (value_at s rs1) (x m rs1) imm (told.described.registers rs1)

  imm_onward : (op : ImmOp) (rd rs1 : ℕ) (imm : ℤ) → Writes m rd (imm_result op (x m rs1) imm) next n
      → Among (next ∷ []) n.pc × Told entry (put s rd (folded_one m.pc (value_at s rs1) (λ a. imm_result op a imm))) n
  imm_onward op rd rs1 imm made =
      onward rd (folded_one m.pc (value_at s rs1) (λ a. imm_result op a imm)) _
      (folded_one_means entry words m.pc (value_at s rs1) (x m rs1) (λ a. imm_result op a imm) (fits rs1) (told.described.registers rs1) (λ a small. imm_is_word op a imm small)) made

  reg_onward : (op : RegOp) (rd rs1 rs2 : ℕ) → Writes m rd (reg_result op (x m rs1) (x m rs2)) next n
      → Among (next ∷ []) n.pc × Told entry (put s rd (folded_two m.pc (value_at s rs1) (value_at s rs2) (reg_result op))) n
  reg_onward op rd rs1 rs2 made =
      onward rd (folded_two m.pc (value_at s rs1) (value_at s rs2) (reg_result op)) _
      (folded_two_means entry words m.pc (value_at s rs1) (value_at s rs2) (x m rs1) (x m rs2) (reg_result op) (fits rs1) (fits rs2)
      (told.described.registers rs1) (told.described.registers rs2) (reg_is_word op)) made

  branched : (taken : Bool) (target : ℕ) → Writes m 0 0 (if taken then target else next) n → Among (next ∷ target ∷ []) n.pc
  branched true target made = inr (inl made.pc)
  branched false target made = inl made.pc

  pub executed_follows : (guess : Option (List ℕ)) (instr : Instr) → Executes instr next m n → (own_of instr s ≡ None → Spares entry s.slots m n)
      → ((own : Own) → own_of instr s ≡ Some own → is_below own.offset own.width ≡ true → IsPlaced entry own.offset)
      → Follows entry next s m n (flow_under instr guess m.pc next s)
  executed_follows guess (Lui rd imm) made spared placed =
      onward rd (Is 0 (upper imm)) (upper imm) (constant_means entry (upper imm) words.zero_is (search wrapped)) made
  executed_follows guess (Auipc rd imm) made spared placed =
      onward rd (Is 0 (word (pos (m.pc + upper imm)))) _ (constant_means entry _ words.zero_is (search wrapped)) made
  executed_follows guess (Jal rd off) made spared placed = linked_follows rd _ made
  executed_follows guess (Jalr rd rs1 imm) made spared placed =
      jump_follows rd rs1 imm guess (plus (value_at s rs1) imm) _ (plus_small (value_at s rs1) imm) (address_means rs1 imm) made
  executed_follows guess (Branch op rs1 rs2 off) made spared placed =
      (branched (is_taken op (x m rs1) (x m rs2)) _ made, same_told entry s m n told made.registers (spares_all entry s.slots m n made.memory))
  executed_follows guess (Load Ld rd rs1 imm) made spared placed =
      onward rd (loaded_value m.pc s (plus (value_at s rs1) imm)) _ (loaded_means entry m.pc s m (plus (value_at s rs1) imm) _ told.described (address_means rs1 imm)) made
  executed_follows guess (Load Lb rd rs1 imm) made spared placed = onward rd (Any m.pc Narrow) _ tt made
  executed_follows guess (Load Lh rd rs1 imm) made spared placed = onward rd (Any m.pc Narrow) _ tt made
  executed_follows guess (Load Lw rd rs1 imm) made spared placed = onward rd (Any m.pc Narrow) _ tt made
  executed_follows guess (Load Lbu rd rs1 imm) made spared placed = onward rd (Any m.pc Narrow) _ tt made
  executed_follows guess (Load Lhu rd rs1 imm) made spared placed = onward rd (Any m.pc Narrow) _ tt made
  executed_follows guess (Load Lwu rd rs1 imm) made spared placed = onward rd (Any m.pc Narrow) _ tt made
  executed_follows guess (Store op rs1 rs2 imm) made spared placed = (
    inl made.pc,
    stored_told entry s m n m.pc (store_width op) next _ (x m rs2) (plus (value_at s rs1) imm) (value_at s rs2) words told (plus_small (value_at s rs1) imm)
        (address_means rs1 imm) (regs.words rs2) (told.described.registers rs2) made spared placed,
  )
  executed_follows guess (Imm Addi rd rs1 imm) made spared placed = onward rd (plus (value_at s rs1) imm) _ (address_means rs1 imm) made
  executed_follows guess (Imm Slti rd rs1 imm) made spared placed = imm_onward Slti rd rs1 imm made
  executed_follows guess (Imm Sltiu rd rs1 imm) made spared placed = imm_onward Sltiu rd rs1 imm made
  executed_follows guess (Imm Xori rd rs1 imm) made spared placed = imm_onward Xori rd rs1 imm made
  executed_follows guess (Imm Ori rd rs1 imm) made spared placed = imm_onward Ori rd rs1 imm made
  executed_follows guess (Imm Andi rd rs1 imm) made spared placed = imm_onward Andi rd rs1 imm made
  executed_follows guess (Imm Addiw rd rs1 imm) made spared placed = imm_onward Addiw rd rs1 imm made
  executed_follows guess (Shift op rd rs1 by) made spared placed =
      onward rd (folded_one m.pc (value_at s rs1) (λ a. shift_result op a by)) _
      (folded_one_means entry words m.pc (value_at s rs1) (x m rs1) (λ a. shift_result op a by) (fits rs1) (told.described.registers rs1) (λ a small. shift_is_word op a by small)) made
  executed_follows guess (Reg Add rd rs1 rs2) made spared placed =
      onward rd (added m.pc (value_at s rs1) (value_at s rs2)) _
      (added_means entry words m.pc (value_at s rs1) (value_at s rs2) (x m rs1) (x m rs2) (fits rs1) (fits rs2) (told.described.registers rs1) (told.described.registers rs2)) made
  executed_follows guess (Reg Sub rd rs1 rs2) made spared placed =
      onward rd (subtracted m.pc (value_at s rs1) (value_at s rs2)) _
      (subtracted_means entry words m.pc (value_at s rs1) (value_at s rs2) (x m rs1) (x m rs2) (regs.words rs1) (regs.words rs2) (fits rs1) (fits rs2)
      (told.described.registers rs1) (told.described.registers rs2)) made
  executed_follows guess (Reg Sll rd rs1 rs2) made spared placed = reg_onward Sll rd rs1 rs2 made
  executed_follows guess (Reg Slt rd rs1 rs2) made spared placed = reg_onward Slt rd rs1 rs2 made
  executed_follows guess (Reg Sltu rd rs1 rs2) made spared placed = reg_onward Sltu rd rs1 rs2 made
  executed_follows guess (Reg Xor rd rs1 rs2) made spared placed = reg_onward Xor rd rs1 rs2 made
  executed_follows guess (Reg Srl rd rs1 rs2) made spared placed = reg_onward Srl rd rs1 rs2 made
  executed_follows guess (Reg Sra rd rs1 rs2) made spared placed = reg_onward Sra rd rs1 rs2 made
  executed_follows guess (Reg Or rd rs1 rs2) made spared placed = reg_onward Or rd rs1 rs2 made
  executed_follows guess (Reg And rd rs1 rs2) made spared placed = reg_onward And rd rs1 rs2 made
  executed_follows guess (Reg Mul rd rs1 rs2) made spared placed = reg_onward Mul rd rs1 rs2 made
  executed_follows guess (Reg Mulh rd rs1 rs2) made spared placed = reg_onward Mulh rd rs1 rs2 made
  executed_follows guess (Reg Mulhsu rd rs1 rs2) made spared placed = reg_onward Mulhsu rd rs1 rs2 made
  executed_follows guess (Reg Mulhu rd rs1 rs2) made spared placed = reg_onward Mulhu rd rs1 rs2 made
  executed_follows guess (Reg Div rd rs1 rs2) made spared placed = reg_onward Div rd rs1 rs2 made
  executed_follows guess (Reg Divu rd rs1 rs2) made spared placed = reg_onward Divu rd rs1 rs2 made
  executed_follows guess (Reg Rem rd rs1 rs2) made spared placed = reg_onward Rem rd rs1 rs2 made
  executed_follows guess (Reg Remu rd rs1 rs2) made spared placed = reg_onward Remu rd rs1 rs2 made
  executed_follows guess (Reg Addw rd rs1 rs2) made spared placed = reg_onward Addw rd rs1 rs2 made
  executed_follows guess (Reg Subw rd rs1 rs2) made spared placed = reg_onward Subw rd rs1 rs2 made
  executed_follows guess (Reg Sllw rd rs1 rs2) made spared placed = reg_onward Sllw rd rs1 rs2 made
  executed_follows guess (Reg Srlw rd rs1 rs2) made spared placed = reg_onward Srlw rd rs1 rs2 made
  executed_follows guess (Reg Sraw rd rs1 rs2) made spared placed = reg_onward Sraw rd rs1 rs2 made
  executed_follows guess (Reg Mulw rd rs1 rs2) made spared placed = reg_onward Mulw rd rs1 rs2 made
  executed_follows guess (Reg Divw rd rs1 rs2) made spared placed = reg_onward Divw rd rs1 rs2 made
  executed_follows guess (Reg Divuw rd rs1 rs2) made spared placed = reg_onward Divuw rd rs1 rs2 made
  executed_follows guess (Reg Remw rd rs1 rs2) made spared placed = reg_onward Remw rd rs1 rs2 made
  executed_follows guess (Reg Remuw rd rs1 rs2) made spared placed = reg_onward Remuw rd rs1 rs2 made
  executed_follows guess (Fence rd rs1 imm) made spared placed =
      (inl made.pc, same_told entry s m n told made.registers (spares_all entry s.slots m n made.memory))
  executed_follows guess Ecall made spared placed =
      (inl made.pc, written_told entry s m n 10 (Any m.pc Environment) made.a0 wide regs told tt made.registers (spared refl))
  executed_follows guess Ebreak made spared placed = absurd made
