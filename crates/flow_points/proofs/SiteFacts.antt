-- What makes a site.
use Rattle.std.proofs.Common.{◌≡◌, ◌≢◌, ◌↔◌, ℕ, ℤ, Bool, true, false, IsTrue, Option, None, Some, is_some, Result, Ok, Err, IfOk, IfErr, refl, sym, ap, subst, ◌∙◌}
use Rattle.std.proofs.lemmas.Bool.{false≢true}
use Rattle.elf_image.specs.declared.fetched.Fetched.{Fetched}
use Rattle.rv_instr.specs.declared.Instr.{Instr}
use Rattle.rv_instr.specs.declared.Instr.TheVariants.{Jalr}
use Rattle.rvc_expand.specs.Lengths.{MeansWithLength}
use Rattle.flow_points.specs.Flows.{base_of, flow_of, known, next, Fetches, HasFlow, HasInstr, HasUpper, IsCode, IsSecondHalf, Judged}
use Rattle.flow_points.specs.Sites.{IsSite}
use Rattle.flow_points.specs.declared.code_points.Flow.{Flow}
use Rattle.flow_points.specs.declared.code_points.Point.{Point}
use Rattle.flow_points.specs.declared.code_points.CodePoint.{CodePoint}
use Rattle.flow_points.specs.declared.code_points.Site.{Site}
use Rattle.refusals.specs.declared.flow.FlowRefusal.{FlowRefusal}
use Rattle.flow_points.proofs.OneOutcome.{means_too, one_instr, one_upper}

-- what means no instruction is no second half
pub no_half : (fetches : Fetches) (a : ℕ) (at : Fetched) → fetches.at a ≡ Some at → ((i : Instr) → MeansWithLength at.word at.length i → ⊥)
    → IsSecondHalf fetches a → ⊥
no_half fetches a at f none h = none (Jalr h.rd h.base h.imm) (means_too fetches a h.at (Jalr h.rd h.base h.imm) at h.jalr f)

pub bad_site : (fetches : Fetches) (p : Point) (s : Site) (cause : FlowRefusal) → s.code ≡ Err cause → s.ends_pair ≡ false
    → Judged fetches p.address (Err cause) → (IsSecondHalf fetches p.address → ⊥) → IsSite fetches p s
bad_site fetches p s cause e f judged none =
    record {
      code = subst (λ (r : Result CodePoint FlowRefusal). IfOk r (λ c. (c.point ≡ p) × IsCode fetches c)) (sym e) tt;
      cause = subst (λ (r : Result CodePoint FlowRefusal). IfErr r (λ x. Judged fetches p.address (Err x))) (sym e) judged;
      half = (λ t. absurd (false≢true (sym f ∙ t)), λ h. absurd (none h));
    }

has_base : (i : Instr) → base_of i ≢ 0 → (rd : ℕ) × (imm : ℤ) × (i ≡ Jalr rd (base_of i) imm)
has_base (Jalr rd rs1 imm) h = (rd, imm, refl)
has_base i h = absurd (h refl)

half_of : (fetches : Fetches) (a : ℕ) (at : Fetched) (i : Instr) (upper : Option ℕ) → HasInstr fetches a at i
    → HasUpper fetches a (base_of i) upper → is_some upper ≡ true → IsSecondHalf fetches a
half_of fetches a at i None has h e = absurd (false≢true e)
half_of fetches a at i (Some n) has h e =
    let jalr = has_base i h.set in
    record { at = at; rd = jalr.0; base = base_of i; imm = jalr.1; upper = n; jalr = subst (HasInstr fetches a at) jalr.2 has; first = h }

of_half : (fetches : Fetches) (a : ℕ) (at : Fetched) (i : Instr) (upper : Option ℕ) → HasInstr fetches a at i
    → HasUpper fetches a (base_of i) upper → IsSecondHalf fetches a → is_some upper ≡ true
of_half fetches a at i upper has h half =
    let same = one_instr fetches a at half.at i (Jalr half.rd half.base half.imm) has half.jalr in
    let first = subst (λ (j : Instr). HasUpper fetches a (base_of j) (Some half.upper)) (sym same) half.first in
    ap is_some (one_upper fetches a (base_of i) upper (Some half.upper) h first)

module _ (fetches : Fetches) (p : Point) (at : Fetched) (i : Instr) (upper : Option ℕ) (half : Bool) (has : HasInstr fetches p.address at i)
    (before : HasUpper fetches p.address (base_of i) upper) (ends : half ≡ is_some upper) where
  halves : IsTrue half ↔ IsSecondHalf fetches p.address
  halves =
      (λ t. half_of fetches p.address at i upper has before (sym ends ∙ t), λ s. ends ∙ of_half fetches p.address at i upper has before s)

  pub good_site : (code : Result CodePoint FlowRefusal) (flow : Flow)
      → flow_of fetches.unit p.address (next p.address at.length) upper i ≡ Ok flow
      → code ≡ Ok (record { point = p; word = at.word; length = at.length; instr = i; flow = flow })
      → IsSite fetches p (record { code = code; ends_pair = half })
  good_site code flow is c = record {
    code = subst (λ (r : Result CodePoint FlowRefusal). IfOk r (λ d. (d.point ≡ p) × IsCode fetches d)) (sym c)
        (refl, record { instr = has; flow = known at i upper has before (sym is) });
    cause = subst (λ (r : Result CodePoint FlowRefusal). IfErr r (λ x. Judged fetches p.address (Err x))) (sym c) tt;
    half = halves;
  }

  pub unflowing_site : (code : Result CodePoint FlowRefusal) (cause : FlowRefusal)
      → flow_of fetches.unit p.address (next p.address at.length) upper i ≡ Err cause → code ≡ Err cause
      → IsSite fetches p (record { code = code; ends_pair = half })
  unflowing_site code cause is c = record {
    code = subst (λ (r : Result CodePoint FlowRefusal). IfOk r (λ d. (d.point ≡ p) × IsCode fetches d)) (sym c) tt;
    cause = subst (λ (r : Result CodePoint FlowRefusal). IfErr r (λ x. Judged fetches p.address (Err x))) (sym c)
        (known at i upper has before (sym is));
    half = halves;
  }

-- the code of a site
pub site_code : (fetches : Fetches) (p : Point) (s : Site) (c : CodePoint) → IsSite fetches p s → s.code ≡ Ok c
    → (c.point ≡ p) × IsCode fetches c
site_code fetches p s c is e =
    subst (λ (r : Result CodePoint FlowRefusal). IfOk r (λ d. (d.point ≡ p) × IsCode fetches d)) e is.code

pub site_cause : (fetches : Fetches) (p : Point) (s : Site) (cause : FlowRefusal) → IsSite fetches p s → s.code ≡ Err cause
    → Judged fetches p.address (Err cause)
site_cause fetches p s cause is e =
    subst (λ (r : Result CodePoint FlowRefusal). IfErr r (λ x. Judged fetches p.address (Err x))) e is.cause

pub site_flow : (fetches : Fetches) (p : Point) (s : Site) (c : CodePoint) → IsSite fetches p s → s.code ≡ Ok c
    → HasFlow fetches p.address c.flow
site_flow fetches p s c is e =
    let code = site_code fetches p s c is e in
    subst (λ (q : Point). HasFlow fetches q.address c.flow) code.0 code.1.flow
