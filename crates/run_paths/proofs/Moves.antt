-- What an instruction makes of the registers that keep or move an offset.
use Rattle.std.proofs.Common.{◌≡◌, ◌≢◌, ℕ, ◌^◌, ◌<◌, ℤ, pos, Bool, true, false, List, slice_index, None, Some, refl, ap, sym, ◌∙◌, arith, if◌then◌else◌, ◌==◌}
use Rattle.std.proofs.lemmas.Bool.{eqb-true, eq-eqb}
use Rattle.rv_decode.specs.Instructions.{IsWellFormed}
use Rattle.rv_instr.specs.declared.Instr.{Instr}
use Rattle.rv_instr.specs.declared.Instr.TheVariants.{Lui, Auipc, Jal, Jalr, Branch as BranchInstr, Load, Store, Imm, Shift, Reg, Fence, Ecall, Ebreak}
use Rattle.rv_instr.specs.declared.ImmOp.TheVariants.{Addi, Slti, Sltiu, Xori, Ori, Andi, Addiw}
use Rattle.flow_points.specs.Flows.{plus}
use Rattle.flow_points.specs.declared.code_points.Flow.{Flow}
use Rattle.flow_points.specs.declared.code_points.Flow.TheVariants.{Next, Jump, Branch, Call, Return, Halt}
use Rattle.frame_offsets.specs.Frames.{kept_unless, source_in, source_of}
use Rattle.rv_step.specs.Harts.{Hart, x}
use Rattle.rv_step.specs.Effects.{written}
use Rattle.rv_step.specs.Results.{imm_result}
use Rattle.rv_step.specs.Steps.{Executes}
use Rattle.run_paths.proofs.Numbers.{sum_word}
use Rattle.run_paths.proofs.EffectsLand.{IsShort-within}
use Rattle.run_paths.proofs.States.{AreWords}
use Rattle.run_paths.proofs.Turning.{IsPlain}
use Rattle.run_paths.proofs.Writing.{written_other, written_same}

abbrev IsMoved : List ℕ → List ℕ → ℕ → ℕ × ℤ → Type 0
IsMoved old new r from = slice_index new r ≡ plus (slice_index old from.0) from.1

same_word : (w : ℕ) → w < 2 ^ 64 → w ≡ plus w (pos 0)
same_word w small = omega arith

kept_moved : (old new : List ℕ) (r : ℕ) (from : ℕ × ℤ) → AreWords old → slice_index new r ≡ slice_index old r → (r, pos 0) ≡ from → IsMoved old new r from
kept_moved old new r from words same is =
    same ∙ same_word (slice_index old r) (words.words r) ∙ ap (λ (s : ℕ × ℤ). plus (slice_index old s.0) s.1) is

written_moved : (old new : List ℕ) (rd w r : ℕ) (from : ℕ × ℤ) → AreWords old → new ≡ written old rd w → kept_unless (Some rd) r ≡ Some from
    → IsMoved old new r from
written_moved old new rd w r from words now is = by (rd == r) refl is
  where
    by : (b : Bool) → (rd == r) ≡ b → (if b then None else Some (r, pos 0)) ≡ Some from → IsMoved old new r from
    by true e kept = cc
    by false e kept =
        kept_moved old new r from words
        (ap (λ (regs : List ℕ). slice_index regs r) now ∙ written_other old rd w r (λ same. let t = eq-eqb rd r (sym same) in cc)) (let k : (r, pos 0) ≡ from = cc in k)

still_moved : (old new : List ℕ) (r : ℕ) (from : ℕ × ℤ) → AreWords old → new ≡ old → kept_unless None r ≡ Some from → IsMoved old new r from
still_moved old new r from words now is = kept_moved old new r from words (ap (λ (regs : List ℕ). slice_index regs r) now) (let k : (r, pos 0) ≡ from = cc in k)

moves_in : (instr : Instr) (next : ℕ) (m n : Hart) (r : ℕ) (from : ℕ × ℤ) → r ≢ 0 → AreWords m.registers → IsWellFormed instr → Executes instr next m n
    → source_in instr r ≡ Some from → IsMoved m.registers n.registers r from
moves_in (Lui rd imm) next m n r from some words formed made is = written_moved m.registers n.registers rd _ r from words made.registers is
moves_in (Auipc rd imm) next m n r from some words formed made is = written_moved m.registers n.registers rd _ r from words made.registers is
moves_in (Jal rd off) next m n r from some words formed made is = written_moved m.registers n.registers rd _ r from words made.registers is
moves_in (Jalr rd rs1 imm) next m n r from some words formed made is = written_moved m.registers n.registers rd _ r from words made.registers is
moves_in (BranchInstr op rs1 rs2 off) next m n r from some words formed made is = still_moved m.registers n.registers r from words made.registers is
moves_in (Load op rd rs1 imm) next m n r from some words formed made is = written_moved m.registers n.registers rd _ r from words made.registers is
moves_in (Store op rs1 rs2 imm) next m n r from some words formed made is = still_moved m.registers n.registers r from words made.registers is
moves_in (Imm Addi rd rs1 imm) next m n r from some words formed made is = by (rd == r) refl is
  where
    by : (b : Bool) → (rd == r) ≡ b → (if b then Some (rs1, imm) else Some (r, pos 0)) ≡ Some from → IsMoved m.registers n.registers r from
    by true e moved =
        let same = eqb-true rd r e in
        let source : (rs1, imm) ≡ from = cc in
        ap (λ (regs : List ℕ). slice_index regs r) made.registers
        ∙ ap (λ (q : ℕ). slice_index (written m.registers q (imm_result Addi (x m rs1) imm)) r) same
        ∙ written_same m.registers r (imm_result Addi (x m rs1) imm) some (omega (arith, formed.0, same, words.count))
        ∙ sum_word (x m rs1) imm (words.words rs1) (IsShort-within (2 ^ 11) imm (omega arith) formed.2)
        ∙ ap (λ (s : ℕ × ℤ). plus (x m s.0) s.1) source
    by false e moved =
        kept_moved m.registers n.registers r from words
        (ap (λ (regs : List ℕ). slice_index regs r) made.registers ∙ written_other m.registers rd (imm_result Addi (x m rs1) imm) r (λ same. let t = eq-eqb rd r (sym same) in cc))
        (let k : (r, pos 0) ≡ from = cc in k)
moves_in (Imm Slti rd rs1 imm) next m n r from some words formed made is = written_moved m.registers n.registers rd _ r from words made.registers is
moves_in (Imm Sltiu rd rs1 imm) next m n r from some words formed made is = written_moved m.registers n.registers rd _ r from words made.registers is
moves_in (Imm Xori rd rs1 imm) next m n r from some words formed made is = written_moved m.registers n.registers rd _ r from words made.registers is
moves_in (Imm Ori rd rs1 imm) next m n r from some words formed made is = written_moved m.registers n.registers rd _ r from words made.registers is
moves_in (Imm Andi rd rs1 imm) next m n r from some words formed made is = written_moved m.registers n.registers rd _ r from words made.registers is
moves_in (Imm Addiw rd rs1 imm) next m n r from some words formed made is = written_moved m.registers n.registers rd _ r from words made.registers is
moves_in (Shift op rd rs1 by) next m n r from some words formed made is = written_moved m.registers n.registers rd _ r from words made.registers is
moves_in (Reg op rd rs1 rs2) next m n r from some words formed made is = written_moved m.registers n.registers rd _ r from words made.registers is
moves_in (Fence rd rs1 imm) next m n r from some words formed made is = still_moved m.registers n.registers r from words made.registers is
moves_in Ecall next m n r from some words formed made is = written_moved m.registers n.registers 10 made.a0 r from words made.registers is
moves_in Ebreak next m n r from some words formed made is = absurd made

plain_source : (instr : Instr) (flow : Flow) (r : ℕ) → IsPlain flow → source_of instr flow r ≡ (if r == 0 then None else source_in instr r)
plain_source instr (Next next) r plain = refl
plain_source instr (Jump target) r plain = refl
plain_source instr (Branch next target) r plain = refl
plain_source instr (Call target next) r plain = absurd plain
plain_source instr Return r plain = absurd plain
plain_source instr Halt r plain = refl

pub moves : (instr : Instr) (flow : Flow) (next : ℕ) (m n : Hart) (r : ℕ) (from : ℕ × ℤ) → IsPlain flow → AreWords m.registers → IsWellFormed instr
    → Executes instr next m n → source_of instr flow r ≡ Some from → slice_index n.registers r ≡ plus (x m from.0) from.1
moves instr flow next m n r from plain words formed made is = by (r == 0) refl (sym (plain_source instr flow r plain) ∙ is)
  where
    by : (b : Bool) → (r == 0) ≡ b → (if b then None else source_in instr r) ≡ Some from → slice_index n.registers r ≡ plus (x m from.0) from.1
    by true e kept = cc
    by false e kept = moves_in instr next m n r from (λ zero. let t = eq-eqb r 0 zero in cc) words formed made kept
