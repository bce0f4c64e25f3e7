-- Machines that differ in nothing that a step reads make the same step.
use Rattle.std.proofs.Common.{◌≡◌, ℕ, ◌*◌, ◌/◌, ◌%◌, ◌^◌, ◌<◌, nat_lt, ◌==◌, ◌&&◌, Option, None, Some, pos, ◌+ℤ◌, refl, ap, sym, ◌∙◌, arith, subst, if◌then◌else◌}
use Rattle.std.specs.Int.{cast_signed, w8, w16}
use Rattle.std.specs.List.{list_any}
use Rattle.elf_image.specs.Fetches.{fetch, fetch_length, read}
use Rattle.elf_image.specs.Ranges.{is_in}
use Rattle.elf_image.specs.declared.fetched.Fetched.{Fetched}
use Rattle.rv_instr.specs.declared.Instr.{Instr}
use Rattle.rv_instr.specs.declared.Instr.TheVariants.{Lui, Auipc, Jal, Jalr, Branch, Load, Store, Imm, Shift, Reg, Fence, Ecall, Ebreak}
use Rattle.rv_instr.specs.declared.LoadOp.{LoadOp}
use Rattle.rv_instr.specs.declared.LoadOp.TheVariants.{Lb, Lh, Lw, Ld, Lbu, Lhu, Lwu}
use Rattle.rv_step.specs.Effects.{Stores, Writes, distance, written}
use Rattle.rv_step.specs.Harts.{Hart, IsSame, fetched, x}
use Rattle.rv_step.specs.Own.{IsOwn}
use Rattle.rv_step.specs.Steps.{Executes, IsAt, Step, loaded, store_width}
use Rattle.rv_step.specs.Words.{sign_extended, word}
use Rattle.rv_step.proofs.OneStep.{one_step}
use Rattle.rv_step.proofs.ResultsAreWords.{wrapped}
use Rattle.run_paths.proofs.Bytes.{read_same}
use Rattle.run_verdicts.specs.Changes.{IsOwnStep}
use Rattle.run_verdicts.proofs.Changing.{no_ecall}

abbrev pub with_memory : Hart → (ℕ → ℕ) → Hart
with_memory m memory = record { pc = m.pc; registers = m.registers; memory = memory; code = m.code; unit = m.unit }

module _ (m : Hart) (memory : ℕ → ℕ) (same : (b : ℕ) → b < 2 ^ 64 → memory b ≡ m.memory b) where
  abbrev other : Hart
  other = with_memory m memory

  pub reads : (count a : ℕ) → a < 2 ^ 64 → read count memory a ≡ read count m.memory a
  reads count a small = read_same count m.memory memory a small (λ k below. same _ (omega arith))

  pub fetches : m.pc < 2 ^ 64 → fetched other ≡ fetched m
  unfolding fetch
  fetches small =
      let by : (ℕ → ℕ) → ℕ → Option Fetched = λ word low.
      if m.pc % m.unit == 0 && list_any (is_in m.pc (fetch_length m.unit low)) m.code
      then Some (record { word = word (fetch_length m.unit low); length = fetch_length m.unit low }) else None in
      let first : by (λ l. read l memory m.pc) (memory m.pc) ≡ by (λ l. read l memory m.pc) (m.memory m.pc) =
      ap (by (λ l. read l memory m.pc)) (same m.pc small) in
      let length = fetch_length m.unit (m.memory m.pc) in
      let rest : by (λ l. read l memory m.pc) (m.memory m.pc) ≡ by (λ l. read l m.memory m.pc) (m.memory m.pc) =
      ap (λ (w : ℕ). if m.pc % m.unit == 0 && list_any (is_in m.pc length) m.code
      then Some (record { word = w; length = length }) else None) (reads length m.pc small) in
      first ∙ rest

  loads : (op : LoadOp) (a : ℕ) → a < 2 ^ 64 → loaded op memory a ≡ loaded op m.memory a
  loads Lb a small = ap (λ (w : ℕ). word (cast_signed w8 w)) (reads 1 a small)
  loads Lh a small = ap (λ (w : ℕ). word (cast_signed w16 w)) (reads 2 a small)
  loads Lw a small = ap (λ (w : ℕ). sign_extended (pos w)) (reads 4 a small)
  loads Ld a small = reads 8 a small
  loads Lbu a small = reads 1 a small
  loads Lhu a small = reads 2 a small
  loads Lwu a small = reads 4 a small

  writes : (rd value now next : ℕ) (n : Hart) → value ≡ now → Writes other rd value next n → Writes m rd now next n
  writes rd value now next n is w = record {
    pc = w.pc;
    registers = w.registers ∙ ap (written m.registers rd) is;
    memory = λ b small. w.memory b small ∙ same b small;
    code = w.code;
    unit = w.unit;
  }

  stores : (k a value next : ℕ) (n : Hart) → Stores other k a value next n → Stores m k a value next n
  stores k a value next n s = record {
    pc = s.pc;
    registers = s.registers;
    memory = λ b small. s.memory b small
        ∙ ap (λ (byte : ℕ). if nat_lt (distance a b) k then value / 2 ^ (8 * distance a b) % 2 ^ 8 else byte) (same b small);
    code = s.code;
    unit = s.unit;
  }

  executes : (instr : Instr) (next : ℕ) (n : Hart) → IsOwn instr → Executes instr next other n → Executes instr next m n
  executes (Lui rd imm) next n own = writes rd _ _ _ n refl
  executes (Auipc rd imm) next n own = writes rd _ _ _ n refl
  executes (Jal rd off) next n own = writes rd _ _ _ n refl
  executes (Jalr rd rs1 imm) next n own = writes rd _ _ _ n refl
  executes (Branch op rs1 rs2 off) next n own = writes 0 _ _ _ n refl
  executes (Load op rd rs1 imm) next n own =
      writes rd _ _ _ n (loads op (word (pos (x m rs1) +ℤ imm)) (wrapped (pos (x m rs1) +ℤ imm)))
  executes (Store op rs1 rs2 imm) next n own = stores (store_width op) _ _ _ n
  executes (Imm op rd rs1 imm) next n own = writes rd _ _ _ n refl
  executes (Shift op rd rs1 by) next n own = writes rd _ _ _ n refl
  executes (Reg op rd rs1 rs2) next n own = writes rd _ _ _ n refl
  executes (Fence rd rs1 imm) next n own = writes 0 _ _ _ n refl
  executes Ecall next n own = absurd own
  executes Ebreak next n own = absurd own

  pub is_at_too : m.pc < 2 ^ 64 → (at : Fetched) (instr : Instr) → IsAt other at instr → IsAt m at instr
  is_at_too small at instr is = record { fetches = sym (fetches small) ∙ is.fetches; means = is.means }

-- an instruction that is made is the machine's own, where nothing stops it
own_if : (m : Hart) → IsOwnStep m → (at : Fetched) (instr : Instr) (next : ℕ) (k n : Hart) → IsAt m at instr → Executes instr next k n
    → IsOwn instr
own_if m goes at Ecall next k n is made = absurd (no_ecall m at goes is)
own_if m goes at Ebreak next k n is made = absurd made
own_if m goes at instr next k n is made = tt

-- the other machine is the one with its memory
module _ (m n : Hart) (are : IsSame m n) where
  pub as_other : n ≡ with_memory m n.memory
  as_other =
      ap (λ (pc : ℕ). record { pc = pc; registers = n.registers; memory = n.memory; code = n.code; unit = n.unit }) (sym are.pc)
      ∙ ap (λ rs. record { pc = m.pc; registers = rs; memory = n.memory; code = n.code; unit = n.unit }) (sym are.registers)
      ∙ ap (λ code. record { pc = m.pc; registers = m.registers; memory = n.memory; code = code; unit = n.unit }) (sym are.code)
      ∙ ap (λ (u : ℕ). record { pc = m.pc; registers = m.registers; memory = n.memory; code = m.code; unit = u }) (sym are.unit)

  pub memory_too : (b : ℕ) → b < 2 ^ 64 → n.memory b ≡ m.memory b
  memory_too b small = sym (are.memory b small)

  pub same_fetched : m.pc < 2 ^ 64 → fetched n ≡ fetched m
  same_fetched small = ap fetched as_other ∙ fetches m n.memory memory_too small

  pub same_reads : (count a : ℕ) → a < 2 ^ 64 → read count n.memory a ≡ read count m.memory a
  same_reads = reads m n.memory memory_too

  pub alike_step : (p q : Hart) → m.pc < 2 ^ 64 → IsOwnStep m → Step m p → Step n q → IsSame p q
  alike_step p q small goes first second =
      let there : Step (with_memory m n.memory) q = subst (λ (k : Hart). Step k q) as_other second in
      let at : IsAt m there.at there.instr = is_at_too m n.memory memory_too small there.at there.instr there.is_at in
      let own = own_if m goes there.at there.instr _ (with_memory m n.memory) q at there.executes in
      let step : Step m q = record {
        at = there.at;
        instr = there.instr;
        is_at = at;
        executes = executes m n.memory memory_too there.instr _ q own there.executes;
      } in
      one_step m p q there.at there.instr at own first step
