-- Sources are registers.
use Rattle.std.proofs.Common.{◌≡◌, ℕ, ◌<◌, ℤ, pos, Bool, true, false, eqb, if◌then◌else◌, Option, None, Some, sym, ap, subst, arith}
use Rattle.rv_decode.specs.Instructions.{IsWellFormed}
use Rattle.rv_instr.specs.declared.Instr.{Instr}
use Rattle.rv_instr.specs.declared.Instr.TheVariants.{Imm}
use Rattle.rv_instr.specs.declared.ImmOp.TheVariants.{Addi}
use Rattle.flow_points.specs.declared.code_points.Flow.{Flow}
use Rattle.flow_points.specs.declared.code_points.Flow.TheVariants.{Call}
use Rattle.frame_offsets.specs.Frames.{is_kept_by_calls, kept_unless, source_in, source_of, written_by}

kept_is : (o : Option ℕ) (r : ℕ) (s : ℕ × ℤ) → kept_unless o r ≡ Some s → s.0 ≡ r
kept_is None r s e = let same : (r, pos 0) ≡ s = cc in sym (ap (λ (x : ℕ × ℤ). x.0) same)
kept_is (Some rd) r s e = by (eqb rd r) e
  where
    by : (t : Bool) → (if t then None else Some (r, pos 0)) ≡ Some s → s.0 ≡ r
    by true d = cc
    by false d = let same : (r, pos 0) ≡ s = cc in sym (ap (λ (x : ℕ × ℤ). x.0) same)

in_within : (instr : Instr) (r : ℕ) (s : ℕ × ℤ) → IsWellFormed instr → r < 32 → source_in instr r ≡ Some s → s.0 < 32
in_within (Imm Addi rd rs1 imm) r s wf lt e = by (eqb rd r) e
  where
    by : (t : Bool) → (if t then Some (rs1, imm) else Some (r, pos 0)) ≡ Some s → s.0 < 32
    by true d = let same : (rs1, imm) ≡ s = cc in subst (λ (x : ℕ × ℤ). x.0 < 32) same wf.1
    by false d = let same : (r, pos 0) ≡ s = cc in subst (λ (x : ℕ × ℤ). x.0 < 32) same lt
in_within instr r s wf lt e = let same = kept_is (written_by instr) r s e in omega arith

pub source_within : (instr : Instr) (flow : Flow) (r : ℕ) (s : ℕ × ℤ) → IsWellFormed instr → r < 32 → source_of instr flow r ≡ Some s → s.0 < 32
source_within instr (Call t n) r s wf lt e = by (is_kept_by_calls r) e
  where
    by : (b : Bool) → (if b then Some (r, pos 0) else None) ≡ Some s → s.0 < 32
    by true d = let same : (r, pos 0) ≡ s = cc in subst (λ (x : ℕ × ℤ). x.0 < 32) same lt
    by false d = cc
source_within instr flow r s wf lt e = by (eqb r 0) e
  where
    by : (b : Bool) → (if b then None else source_in instr r) ≡ Some s → s.0 < 32
    by true d = cc
    by false d = in_within instr r s wf lt d
