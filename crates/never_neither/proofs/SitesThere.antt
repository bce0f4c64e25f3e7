-- There is something at each point.
use Rattle.std.proofs.Common.{◌≡◌, ℕ, List, inl, inr, Option, None, Some, is_some, false, Result, Ok, Err, refl}
use Rattle.elf_image.specs.declared.fetched.Fetched.{Fetched}
use Rattle.rv_instr.specs.declared.Instr.{Instr}
use Rattle.rvc_expand.specs.Lengths.{MeansWithLength}
use Rattle.flow_points.specs.Flows.{Fetches, HasInstr, HasUpper, IsFirstHalf, base_of, flow_of, next, outside, unknown}
use Rattle.flow_points.specs.Sites.{IsSite}
use Rattle.flow_points.specs.Causes.{site_of}
use Rattle.flow_points.specs.declared.code_points.Flow.{Flow}
use Rattle.flow_points.specs.declared.code_points.Point.{Point}
use Rattle.flow_points.specs.declared.code_points.CodePoint.{CodePoint}
use Rattle.flow_points.proofs.SiteFacts.{bad_site, good_site, no_half, unflowing_site}
use Rattle.refusals.specs.declared.flow.FlowRefusal.{FlowRefusal}
use Rattle.refusals.specs.declared.flow.FlowRefusal.TheVariants.{OutsideCode, NoInstruction}
use Rattle.never_neither.proofs.Deciding.{decide}

-- what there is at a point has a type that `flow_points` has for itself
abbrev of_entries : {S : Type 0} → (List (Point × S) → Point → Option S) → Type 0
of_entries {S} find = S

abbrev pub Site : Type 0
Site = of_entries site_of

abbrev bad : FlowRefusal → Site
bad cause = record { code = Err cause; ends_pair = false }

module _ (fetches : Fetches) (p : Point) where
  outside_site : fetches.at p.address ≡ None → IsSite fetches p (bad (OutsideCode p.address))
  outside_site is =
      bad_site fetches p (bad (OutsideCode p.address)) (OutsideCode p.address) refl refl (outside is refl)
      (λ half. let there = half.jalr.fetched in cc)

  unknown_site : (at : Fetched) → fetches.at p.address ≡ Some at → ((i : Instr) → MeansWithLength at.word at.length i → ⊥)
      → IsSite fetches p (bad (NoInstruction p.address at.word))
  unknown_site at is none =
      bad_site fetches p (bad (NoInstruction p.address at.word)) (NoInstruction p.address at.word) refl refl
      (unknown at is none refl) (no_half fetches p.address at is none)

  known_site : (at : Fetched) (i : Instr) (upper : Option ℕ) → HasInstr fetches p.address at i
      → HasUpper fetches p.address (base_of i) upper → (s : Site) × IsSite fetches p s
  known_site at i upper has before = by (flow_of fetches.unit p.address (next p.address at.length) upper i) refl
    where
      by : (r : Result Flow FlowRefusal) → flow_of fetches.unit p.address (next p.address at.length) upper i ≡ r
          → (s : Site) × IsSite fetches p s
      by (Ok flow) is =
          let c : CodePoint = record { point = p; word = at.word; length = at.length; instr = i; flow = flow } in
          let s : Site = record { code = Ok c; ends_pair = is_some upper } in
          (s, good_site fetches p at i upper (is_some upper) has before refl (Ok c) flow is refl)
      by (Err cause) is =
          let s : Site = record { code = Err cause; ends_pair = is_some upper } in
          (s, unflowing_site fetches p at i upper (is_some upper) has before refl (Err cause) cause is refl)

  -- what is known of the four bytes before
  upper_there : (r : ℕ) → ((upper : Option ℕ) → HasUpper fetches p.address r upper → ⊥) → ⊥
  upper_there r none =
      decide ((n : ℕ) × IsFirstHalf fetches p.address r n) (λ d. elim d [
        | inl first ↦ none (Some first.0) first.1
        | inr never ↦ none None (λ n h. never (n, h))
      ])

  pub site_there : ((s : Site) → IsSite fetches p s → ⊥) → ⊥
  site_there none = by (fetches.at p.address) refl
    where
      by : (o : Option Fetched) → fetches.at p.address ≡ o → ⊥
      by None is = none (bad (OutsideCode p.address)) (outside_site is)
      by (Some at) is =
          decide ((i : Instr) × MeansWithLength at.word at.length i) (λ d. elim d [
            | inl found ↦
                upper_there (base_of found.0) (λ upper before.
                let site = known_site at found.0 upper (record { fetched = is; means = found.1 }) before in none site.0 site.1)
            | inr never ↦ none (bad (NoInstruction p.address at.word)) (unknown_site at is (λ i m. never (i, m)))
          ])
