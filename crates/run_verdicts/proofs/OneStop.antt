-- Why a machine stops is one.
use Rattle.std.proofs.Common.{◌≡◌, ◌≢◌, ℕ, ◌^◌, ◌<◌, List, slice_index, Some, None, ap, sym, ◌∙◌, subst}
use Rattle.elf_image.specs.declared.fetched.Fetched.{Fetched}
use Rattle.rv_instr.specs.declared.Instr.{Instr}
use Rattle.rv_instr.specs.declared.Instr.TheVariants.{Ecall, Ebreak}
use Rattle.rvc_expand.specs.Lengths.{MeansWithLength}
use Rattle.rvc_expand.proofs.Cited.{one_meaning}
use Rattle.rv_step.specs.Harts.{Hart, IsSame, fetched, x}
use Rattle.rv_step.specs.Steps.{IsAt}
use Rattle.rv_step.specs.Records.{StopsWith}
use Rattle.rv_step.specs.Records.StopsWith.{outside, illegal, breaks, exits, calls}
use Rattle.rv_step.specs.declared.records.Stop.{Stop}
use Rattle.rv_step.specs.declared.records.Stop.TheVariants as stop
use Rattle.rv_step.proofs.OneStep.{only_illegal}
use Rattle.run_verdicts.proofs.Alike.{same_fetched}

pub one_instr : (m : Hart) (at there : Fetched) (i j : Instr) → IsAt m at i → IsAt m there j → i ≡ j
one_instr m at there i j is also =
    let a = is.fetches in
    let b = also.fetches in
    let same : there ≡ at = cc in
    one_meaning at.word at.length i j is.means (subst (λ (f : Fetched). MeansWithLength f.word f.length j) same also.means)

module _ (m : Hart) where
  not_illegal : (at there : Fetched) (i : Instr) → IsAt m at i → fetched m ≡ Some there
      → ((j : Instr) → MeansWithLength there.word there.length j → ⊥) → ⊥
  not_illegal at there i is f nothing =
      let g = is.fetches in
      let same : at ≡ there = cc in
      nothing i (subst (λ (h : Fetched). MeansWithLength h.word h.length i) same is.means)

  only_outside : fetched m ≡ None → (why : Stop) → StopsWith m why → why ≡ stop.Outside m.pc
  only_outside none why (outside f e) = e
  only_outside none why (illegal at f nothing e) = absurd (cc)
  only_outside none why (breaks at is e) = let f = is.fetches in absurd (cc)
  only_outside none why (exits at is a7 e) = let f = is.fetches in absurd (cc)
  only_outside none why (calls at is a7 e) = let f = is.fetches in absurd (cc)

  only_break : (at : Fetched) → IsAt m at Ebreak → (why : Stop) → StopsWith m why → why ≡ stop.Break m.pc
  only_break at is why (outside f e) = let g = is.fetches in absurd (cc)
  only_break at is why (illegal there f nothing e) = absurd (not_illegal at there Ebreak is f nothing)
  only_break at is why (breaks there also e) = e
  only_break at is why (exits there also a7 e) = let clash = one_instr m at there Ebreak Ecall is also in absurd (cc)
  only_break at is why (calls there also a7 e) = let clash = one_instr m at there Ebreak Ecall is also in absurd (cc)

  only_exit : (at : Fetched) → IsAt m at Ecall → x m 17 ≡ 93 → (why : Stop) → StopsWith m why → why ≡ stop.Exit (x m 10)
  only_exit at is a7 why (outside f e) = let g = is.fetches in absurd (cc)
  only_exit at is a7 why (illegal there f nothing e) = absurd (not_illegal at there Ecall is f nothing)
  only_exit at is a7 why (breaks there also e) = let clash = one_instr m at there Ecall Ebreak is also in absurd (cc)
  only_exit at is a7 why (exits there also a7_too e) = e
  only_exit at is a7 why (calls there also other e) = absurd (other a7)

  only_call : (at : Fetched) → IsAt m at Ecall → x m 17 ≢ 93 → (why : Stop) → StopsWith m why → why ≡ stop.Ecall (x m 17)
  only_call at is a7 why (outside f e) = let g = is.fetches in absurd (cc)
  only_call at is a7 why (illegal there f nothing e) = absurd (not_illegal at there Ecall is f nothing)
  only_call at is a7 why (breaks there also e) = let clash = one_instr m at there Ecall Ebreak is also in absurd (cc)
  only_call at is a7 why (exits there also is_93 e) = absurd (a7 is_93)
  only_call at is a7 why (calls there also other e) = e

  pub one_stop : (why other : Stop) → StopsWith m why → StopsWith m other → why ≡ other
  one_stop why other (outside f e) more = e ∙ sym (only_outside f other more)
  one_stop why other (illegal at f nothing e) more = e ∙ sym (only_illegal m at f nothing other more)
  one_stop why other (breaks at is e) more = e ∙ sym (only_break at is other more)
  one_stop why other (exits at is a7 e) more = e ∙ sym (only_exit at is a7 other more)
  one_stop why other (calls at is a7 e) more = e ∙ sym (only_call at is a7 other more)

-- machines that are the same stop the same
module _ (m n : Hart) (are : IsSame m n) (small : m.pc < 2 ^ 64) where
  is_at : (at : Fetched) (instr : Instr) → IsAt n at instr → IsAt m at instr
  is_at at instr is = record { fetches = sym (same_fetched m n are small) ∙ is.fetches; means = is.means }

  pub stops_too : (why : Stop) → StopsWith n why → StopsWith m why
  stops_too why (outside f e) = outside (sym (same_fetched m n are small) ∙ f) (e ∙ ap stop.Outside (sym are.pc))
  stops_too why (illegal at f nothing e) = illegal at (sym (same_fetched m n are small) ∙ f) nothing e
  stops_too why (breaks at is e) = breaks at (is_at at Ebreak is) (e ∙ ap stop.Break (sym are.pc))
  stops_too why (exits at is a7 e) =
      exits at (is_at at Ecall is) (ap (λ (rs : List ℕ). slice_index rs 17) are.registers ∙ a7)
      (e ∙ ap (λ (rs : List ℕ). stop.Exit (slice_index rs 10)) (sym are.registers))
  stops_too why (calls at is a7 e) =
      calls at (is_at at Ecall is) (λ is_93. a7 (ap (λ (rs : List ℕ). slice_index rs 17) (sym are.registers) ∙ is_93))
      (e ∙ ap (λ (rs : List ℕ). stop.Ecall (slice_index rs 17)) (sym are.registers))
