-- A step leads from a machine to a machine.
use Rattle.std.proofs.Common.{◌≡◌, ℕ, ◌^◌, ◌<◌, ◌≤◌, ◌==◌, ◌⊎◌, inl, inr, pos, ◌+ℤ◌, true, false, List, All, length, get_or, slice_set, subst, sym, refl, ◌∙◌, arith}
use Rattle.std.specs.Prelude.{if◌then◌else◌}
use Rattle.std.proofs.lemmas.Grind.{common_steps}
use Rattle.std.proofs.lemmas.List.{get_or_past}
use Rattle.std.proofs.lemmas.List.Elements.{All-set}
use Rattle.std.proofs.Common.{length-set}
use Rattle.rv_instr.specs.declared.Instr.{Instr}
use Rattle.rv_instr.specs.declared.Instr.TheVariants.{Lui, Auipc, Jal, Jalr, Branch, Load, Store, Imm, Shift, Reg, Fence, Ecall, Ebreak}
use Rattle.rv_step.specs.Results.{is_taken}
use Rattle.rv_step.specs.Harts.{Hart, IsHart, x}
use Rattle.rv_step.specs.Effects.{written, stored, Writes, Stores, Calls}
use Rattle.rv_step.specs.Steps.{Executes, Step, store_width}
use Rattle.rv_step.proofs.ResultsAreWords.{wrapped, chosen, reg_is_word, imm_is_word, shift_is_word, loaded_is_word}

register_is_word : (m : Hart) → IsHart m → (r : ℕ) → x m r < 2 ^ 64
register_is_word m hart r =
    let either : (r < length m.registers) ⊎ (length m.registers ≤ r) = grind arith in
    elim either [ inl within ↦ hart.words r 0 within | inr past ↦ let e = get_or_past m.registers r 0 past in omega arith ]

-- registers with one written
record AreRegisters (rs : List ℕ) : Type 0 where
  pub count : length rs ≡ 32
  pub words : All (λ w. w < 2 ^ 64) rs
  pub zero_is : get_or rs 0 0 ≡ 0

written_are : (rs : List ℕ) (rd value : ℕ) → AreRegisters rs → value < 2 ^ 64 → AreRegisters (written rs rd value)
written_are rs rd value are small =
    elim (rd == 0) as (λ b. (rd == 0) ≡ b → AreRegisters (if b then rs else slice_set rs rd value)) [
      | true ↦ λ zero_register. are
      | false ↦ λ other. record {
        count = length-set rs rd value ∙ are.count;
        words = All-set (λ w. w < 2 ^ 64) rs rd value small are.words;
        zero_is = let z = are.zero_is in grind (arith, common_steps);
      }
    ] refl

pub written_hart : (m : Hart) (rd value next : ℕ) (n : Hart) → IsHart m → value < 2 ^ 64 → next < 2 ^ 64 → Writes m rd value next n → IsHart n
written_hart m rd value next n hart value_small next_small writes =
    let are = written_are m.registers rd value (record { count = hart.registers; words = hart.words; zero_is = hart.zero_is }) value_small in
    let now : AreRegisters n.registers = subst AreRegisters (sym writes.registers) are in
    record {
      pc = let e = writes.pc in omega arith;
      registers = now.count;
      words = now.words;
      zero_is = now.zero_is;
      bytes = λ a small. let e = writes.memory a small in let b = hart.bytes a small in omega arith;
      units = subst (λ (u : ℕ). (u ≡ 2) ⊎ (u ≡ 4)) (sym writes.unit) hart.units;
    }

stored_byte : (k a value : ℕ) (memory : ℕ → ℕ) (b : ℕ) → memory b < 2 ^ 8 → stored k a value memory b < 2 ^ 8
stored_byte k a value memory b small = grind (arith, common_steps)

stored_hart : (m : Hart) (k a value next : ℕ) (n : Hart) → IsHart m → next < 2 ^ 64 → Stores m k a value next n → IsHart n
stored_hart m k a value next n hart next_small stores = record {
  pc = let e = stores.pc in omega arith;
  registers = rw stores.registers hart.registers;
  words = subst (λ (rs : List ℕ). All (λ w. w < 2 ^ 64) rs) (sym stores.registers) hart.words;
  zero_is = rw stores.registers hart.zero_is;
  bytes = λ b small. let e = stores.memory b small in let f = stored_byte k a value m.memory b (hart.bytes b small) in omega arith;
  units = subst (λ (u : ℕ). (u ≡ 2) ⊎ (u ≡ 4)) (sym stores.unit) hart.units;
}

called_hart : (m : Hart) (next : ℕ) (n : Hart) → IsHart m → next < 2 ^ 64 → Calls m next n → IsHart n
called_hart m next n hart next_small calls =
    let are = written_are m.registers 10 calls.a0 (record { count = hart.registers; words = hart.words; zero_is = hart.zero_is }) calls.a0_fits in
    let now : AreRegisters n.registers = subst AreRegisters (sym calls.registers) are in
    record {
      pc = let e = calls.pc in omega arith;
      registers = now.count;
      words = now.words;
      zero_is = now.zero_is;
      bytes = calls.bytes;
      units = subst (λ (u : ℕ). (u ≡ 2) ⊎ (u ≡ 4)) (sym calls.unit) hart.units;
    }

executed_hart : (instr : Instr) (next : ℕ) (m n : Hart) → IsHart m → next < 2 ^ 64 → Executes instr next m n → IsHart n
executed_hart (Lui rd imm) next m n hart small = written_hart m rd _ next n hart (search wrapped) small
executed_hart (Auipc rd imm) next m n hart small = written_hart m rd _ next n hart (search wrapped) small
executed_hart (Jal rd off) next m n hart small = written_hart m rd next _ n hart small (search wrapped)
executed_hart (Jalr rd rs1 imm) next m n hart small =
    let target = wrapped (pos (x m rs1) +ℤ imm) in
    written_hart m rd next _ n hart small (omega arith)
executed_hart (Branch op rs1 rs2 off) next m n hart small =
    written_hart m 0 0 _ n hart (omega arith) (chosen (is_taken op (x m rs1) (x m rs2)) _ next (search wrapped) small)
executed_hart (Load op rd rs1 imm) next m n hart small =
    written_hart m rd _ next n hart (loaded_is_word op m.memory _ hart.bytes (search wrapped)) small
executed_hart (Store op rs1 rs2 imm) next m n hart small = stored_hart m (store_width op) _ (x m rs2) next n hart small
executed_hart (Imm op rd rs1 imm) next m n hart small =
    written_hart m rd _ next n hart (imm_is_word op (x m rs1) imm (register_is_word m hart rs1)) small
executed_hart (Shift op rd rs1 by) next m n hart small =
    written_hart m rd _ next n hart (shift_is_word op (x m rs1) by (register_is_word m hart rs1)) small
executed_hart (Reg op rd rs1 rs2) next m n hart small =
    written_hart m rd _ next n hart (reg_is_word op (x m rs1) (x m rs2) (register_is_word m hart rs1) (register_is_word m hart rs2)) small
executed_hart (Fence rd rs1 imm) next m n hart small = written_hart m 0 0 next n hart (omega arith) small
executed_hart Ecall next m n hart small = called_hart m next n hart small
executed_hart Ebreak next m n hart small = λ none. absurd none

pub step_keeps_hart : (m n : Hart) → IsHart m → Step m n → IsHart n
step_keeps_hart m n hart step = executed_hart step.instr _ m n hart (search wrapped) step.executes
