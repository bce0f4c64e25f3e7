-- The bytes that a record tells as changed are those that the step changes.
use Rattle.std.proofs.Common.{◌≡◌, ◌↔◌, ℕ, ◌+◌, ◌^◌, ◌<◌, pos, ◌+ℤ◌, Bool, [], Contains, Option, None, inl, inr, refl, ap, sym, ◌∙◌, arith, subst, if◌then◌else◌}
use Rattle.std.proofs.lemmas.Bool.{cases_eq}
use Rattle.elf_image.specs.declared.fetched.Fetched.{Fetched}
use Rattle.rv_instr.specs.declared.Instr.{Instr}
use Rattle.rv_instr.specs.declared.Instr.TheVariants.{Lui, Auipc, Jal, Jalr, Branch, Load, Store, Imm, Shift, Reg, Fence, Ecall, Ebreak}
use Rattle.rvc_expand.proofs.Cited.{one_meaning}
use Rattle.rvc_expand.specs.Lengths.{MeansWithLength}
use Rattle.rv_step.specs.Harts.{Hart, IsHart, x}
use Rattle.rv_step.specs.Machines.{hart_of}
use Rattle.rv_step.specs.Records.{IsRecord, calls, exits, store_of}
use Rattle.rv_step.specs.Steps.{Executes, IsAt, Step}
use Rattle.rv_step.specs.Words.{word}
use Rattle.rv_step.specs.declared.machine.Machine.{Machine}
use Rattle.rv_step.specs.declared.records.StepRec.{StepRec}
use Rattle.rv_step.specs.declared.records.StoreRec.{StoreRec}
use Rattle.rv_step.specs.declared.records.Stop.TheVariants as stop
use Rattle.rv_step.proofs.HartsKept.{step_keeps_hart}
use Rattle.rv_step.proofs.ResultsAreWords.{wrapped}
use Rattle.run_watch.specs.Judges.{stored_bytes}
use Rattle.run_verdicts.specs.Changes.{Changes, IsOwnStep}
use Rattle.run_verdicts.proofs.Stored.{Differ, store_tells}

-- what a machine does itself is no ECALL
pub no_ecall : (m : Hart) (at : Fetched) → IsOwnStep m → IsAt m at Ecall → ⊥
no_ecall m at own is =
    elim (cases_eq (x m 17) 93) [
      | inl exit ↦ own (stop.Exit (x m 10)) (exits at is exit refl)
      | inr other ↦ own (stop.Ecall (x m 17)) (calls at is other refl)
    ]

module _ (m n : Hart) where
  abbrev Tells : Option StoreRec → Type 0
  Tells store = (b : ℕ) → Contains (stored_bytes store) b ↔ Differ m n b

  still : ((b : ℕ) → b < 2 ^ 64 → n.memory b ≡ m.memory b) → Tells None
  still same b = (λ there. absurd (omega (arith, there.1)), λ differs. absurd (differs.1 (same b differs.0)))

  tells_by : (instr : Instr) (next : ℕ) → IsHart m → IsHart n → (instr ≡ Ecall → ⊥) → Executes instr next m n
      → Tells (store_of instr m n)
  tells_by (Lui rd imm) next hart_m hart_n own made = still made.memory
  tells_by (Auipc rd imm) next hart_m hart_n own made = still made.memory
  tells_by (Jal rd off) next hart_m hart_n own made = still made.memory
  tells_by (Jalr rd rs1 imm) next hart_m hart_n own made = still made.memory
  tells_by (Branch op rs1 rs2 off) next hart_m hart_n own made = still made.memory
  tells_by (Load op rd rs1 imm) next hart_m hart_n own made = still made.memory
  tells_by (Store op rs1 rs2 imm) next hart_m hart_n own made =
      store_tells op (word (pos (x m rs1) +ℤ imm)) (x m rs2) m n (wrapped (pos (x m rs1) +ℤ imm)) hart_m hart_n made.memory
  tells_by (Imm op rd rs1 imm) next hart_m hart_n own made = still made.memory
  tells_by (Shift op rd rs1 by) next hart_m hart_n own made = still made.memory
  tells_by (Reg op rd rs1 rs2) next hart_m hart_n own made = still made.memory
  tells_by (Fence rd rs1 imm) next hart_m hart_n own made = still made.memory
  tells_by Ecall next hart_m hart_n own made = absurd (own refl)
  tells_by Ebreak next hart_m hart_n own made = absurd made

pub record_tells : (m n : Machine) (told : StepRec) → IsHart (hart_of m) → Step (hart_of m) (hart_of n) → IsOwnStep (hart_of m)
    → IsRecord m n told
    → Changes (hart_of m) (hart_of n) told
record_tells m n told hart s own r =
    let h = hart_of m in
    let at : Fetched = record { word = told.word; length = told.length } in
    let same_at : s.at ≡ at = (let both = sym s.is_at.fetches ∙ r.is_at.fetches in cc both) in
    let same : s.instr ≡ r.instr =
    one_meaning told.word told.length s.instr r.instr
    (subst (λ (f : Fetched). MeansWithLength f.word f.length s.instr) same_at s.is_at.means) r.is_at.means in
    let tells = tells_by h (hart_of n) s.instr (word (pos (h.pc + s.at.length))) hart (step_keeps_hart h (hart_of n) hart s)
    (λ ecall. no_ecall h s.at own (subst (λ (i : Instr). IsAt h s.at i) ecall s.is_at)) s.executes in
    let store : told.store ≡ store_of s.instr h (hart_of n) = r.store
    ∙ ap (λ (i : Instr). store_of i h (hart_of n)) (sym same) in
    subst (λ (made : Bool). (b : ℕ) → Contains (if made then stored_bytes told.store else []) b ↔ Differ h (hart_of n) b)
    (sym r.made)
    (subst (λ (o : Option StoreRec). (b : ℕ) → Contains (stored_bytes o) b ↔ Differ h (hart_of n) b) (sym store) tells)
