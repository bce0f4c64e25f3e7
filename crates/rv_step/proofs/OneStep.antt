-- An instruction that the machine does by itself has one outcome, and where the machine stops it makes no
-- step.
use Rattle.std.proofs.Common.{◌≡◌, ℕ, ◌+◌, ◌==◌, None, Some, pos, sym, ◌∙◌, subst, arith, if◌then◌else◌, true, false, refl}
use Rattle.elf_image.specs.declared.fetched.Fetched.{Fetched}
use Rattle.rv_instr.specs.declared.Instr.{Instr}
use Rattle.rv_instr.specs.declared.Instr.TheVariants.{Lui, Auipc, Jal, Jalr, Branch, Load, Store, Imm, Shift, Reg, Fence, Ecall, Ebreak}
use Rattle.rvc_expand.specs.Lengths.{MeansWithLength}
use Rattle.rvc_expand.proofs.Cited.{one_meaning}
use Rattle.rv_step.specs.Words.{word}
use Rattle.rv_step.specs.Harts.{Hart, IsSame, x, fetched}
use Rattle.rv_step.specs.Effects.{Writes, Stores}
use Rattle.rv_step.specs.Own.{IsOwn}
use Rattle.rv_step.specs.Steps.{Executes, IsAt, Step}
use Rattle.rv_step.specs.Records.{StopsAt, StopsWith}
use Rattle.rv_step.specs.Records.StopsWith.{outside, illegal, breaks, exits, calls}
use Rattle.rv_step.specs.declared.records.Stop.{Stop}
use Rattle.rv_step.specs.declared.records.Stop.TheVariants as stop

one_written : (m : Hart) (rd value next : ℕ) (n p : Hart) → Writes m rd value next n → Writes m rd value next p → IsSame n p
one_written m rd value next n p w v = record {
  pc = w.pc ∙ sym v.pc;
  registers = w.registers ∙ sym v.registers;
  memory = λ a small. w.memory a small ∙ sym (v.memory a small);
  code = w.code ∙ sym v.code;
  unit = w.unit ∙ sym v.unit;
}

one_stored : (m : Hart) (k a value next : ℕ) (n p : Hart) → Stores m k a value next n → Stores m k a value next p → IsSame n p
one_stored m k a value next n p w v = record {
  pc = w.pc ∙ sym v.pc;
  registers = w.registers ∙ sym v.registers;
  memory = λ b small. w.memory b small ∙ sym (v.memory b small);
  code = w.code ∙ sym v.code;
  unit = w.unit ∙ sym v.unit;
}

one_outcome : (instr : Instr) (next : ℕ) (m n p : Hart) → IsOwn instr → Executes instr next m n → Executes instr next m p → IsSame n p
one_outcome (Lui rd imm) next m n p own = one_written m _ _ _ n p
one_outcome (Auipc rd imm) next m n p own = one_written m _ _ _ n p
one_outcome (Jal rd off) next m n p own = one_written m _ _ _ n p
one_outcome (Jalr rd rs1 imm) next m n p own = one_written m _ _ _ n p
one_outcome (Branch op rs1 rs2 off) next m n p own = one_written m _ _ _ n p
one_outcome (Load op rd rs1 imm) next m n p own = one_written m _ _ _ n p
one_outcome (Store op rs1 rs2 imm) next m n p own = one_stored m _ _ _ _ n p
one_outcome (Imm op rd rs1 imm) next m n p own = one_written m _ _ _ n p
one_outcome (Shift op rd rs1 by) next m n p own = one_written m _ _ _ n p
one_outcome (Reg op rd rs1 rs2) next m n p own = one_written m _ _ _ n p
one_outcome (Fence rd rs1 imm) next m n p own = one_written m _ _ _ n p
one_outcome Ecall next m n p own = absurd own
one_outcome Ebreak next m n p own = absurd own

one_fetched : (m : Hart) (at at' : Fetched) → fetched m ≡ Some at → fetched m ≡ Some at' → at' ≡ at
one_fetched m at at' f g = cc

one_instr : (m : Hart) (at at' : Fetched) (i j : Instr) → IsAt m at i → IsAt m at' j → j ≡ i
one_instr m at at' i j is_i is_j =
    let same = one_fetched m at at' is_i.fetches is_j.fetches in
    one_meaning at.word at.length j i (subst (λ (f : Fetched). MeansWithLength f.word f.length j) same is_j.means) is_i.means

pub one_step : (m n p : Hart) (at : Fetched) (instr : Instr) → IsAt m at instr → IsOwn instr → Step m n → Step m p → IsSame n p
one_step m n p at instr is_at own first second =
    let after : Fetched → ℕ = λ f. word (pos (m.pc + f.length)) in
    let E : (k : Hart) → Fetched → Instr → Type 0 = λ k f i. Executes i (after f) m k in
    let there : (k : Hart) (s : Step m k) → E k at instr = λ k s.
    subst (λ (f : Fetched). E k f instr) (one_fetched m at s.at is_at.fetches s.is_at.fetches)
    (subst (λ (i : Instr). E k s.at i) (one_instr m at s.at instr s.instr is_at s.is_at) s.executes) in
    one_outcome instr (after at) m n p own (there n first) (there p second)

moved : (m : Hart) (at at' : Fetched) (instr : Instr) → fetched m ≡ Some at → IsAt m at' instr → MeansWithLength at.word at.length instr
moved m at at' instr fetches is_at =
    subst (λ (f : Fetched). MeansWithLength f.word f.length instr) (one_fetched m at at' fetches is_at.fetches) is_at.means

-- a word that means nothing is the one reason
pub only_illegal : (m : Hart) (at : Fetched) → fetched m ≡ Some at
    → ((instr : Instr) → MeansWithLength at.word at.length instr → ⊥) → (why : Stop) → StopsWith m why → why ≡ stop.Illegal at.word
only_illegal m at fetches none why (outside f e) = absurd (cc)
only_illegal m at fetches none why (illegal at' f nothing e) = let same = one_fetched m at at' fetches f in cc
only_illegal m at fetches none why (breaks at' is e) = absurd (none _ (moved m at at' _ fetches is))
only_illegal m at fetches none why (exits at' is a7 e) = absurd (none _ (moved m at at' _ fetches is))
only_illegal m at fetches none why (calls at' is a7 e) = absurd (none _ (moved m at at' _ fetches is))

-- where an instruction is the machine's own, it doesn't stop
pub own_goes_on : (m : Hart) (at : Fetched) (instr : Instr) → IsAt m at instr → IsOwn instr → (why : Stop) → StopsWith m why → ⊥
own_goes_on m at instr is_at own why (outside f e) = let some = is_at.fetches in absurd (cc)
own_goes_on m at instr is_at own why (illegal at' f nothing e) =
    let same = one_fetched m at' at f is_at.fetches in
    nothing instr (subst (λ (g : Fetched). MeansWithLength g.word g.length instr) same is_at.means)
own_goes_on m at instr is_at own why (breaks at' is e) = subst IsOwn (one_instr m at' at Ebreak instr is is_at) own
own_goes_on m at instr is_at own why (exits at' is a7 e) = subst IsOwn (one_instr m at' at Ecall instr is is_at) own
own_goes_on m at instr is_at own why (calls at' is a7 e) = subst IsOwn (one_instr m at' at Ecall instr is is_at) own

-- why the machine stops at an instruction, told of the machine
pub stops_there : (m : Hart) (at : Fetched) (instr : Instr) → IsAt m at instr → (why : Stop) → StopsAt m instr (Some why) → StopsWith m why
stops_there m at Ebreak is_at why told = breaks at is_at (cc)
stops_there m at Ecall is_at why told =
    elim (x m 17 == 93) as (λ b. (x m 17 == 93) ≡ b → Some why ≡ Some (if b then stop.Exit (x m 10) else stop.Ecall (x m 17)) → StopsWith m why) [
      | true ↦ λ is_93 e. exits at is_at (grind arith) (cc)
      | false ↦ λ is_other e. calls at is_at (λ h. grind arith) (cc)
    ] refl told
stops_there m at instr is_at why told = absurd (cc)

pub own_there : (m : Hart) (instr : Instr) → StopsAt m instr None → IsOwn instr
own_there m Ebreak told = absurd (cc)
own_there m Ecall told = absurd (cc)
own_there m instr told = tt
