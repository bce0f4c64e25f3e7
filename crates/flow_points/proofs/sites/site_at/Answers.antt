use Rattle.std.proofs.Common.{rules, ◌≡◌, ℕ, Some, refl, sym, ap, subst, ◌∙◌}
use Rattle.elf_image.specs.Images.{code_at}
use Rattle.rv_instr.specs.declared.Instr.{Instr}
use Rattle.rvc_expand.specs.Lengths.{MeansWithLength}
use Rattle.flow_points.specs.Flows.{HasInstr, HasUpper, base_of, fetches_of, flow_of, unknown}
use Rattle.flow_points.proofs.SiteFacts.{bad_site, good_site, no_half, unflowing_site}
use Rattle.flow_points.proofs.sites.site_at.Goals as goal
use Rattle.flow_points.proofs.sites.site_at.Goals.{in-Ok, in-Err}

pub returns-in_default-decode_with_length : goal.returns-in_default-decode_with_length
returns-in_default-decode_with_length c =
    let none : (i : Instr) → MeansWithLength c.in-Some.at.word c.in-Some.at.length i → ⊥ =
    λ i m. let e = c.decode_with_length.ensures.only i m in let f = c.in_default-decode_with_length.is in cc in
    let fetched : code_at c.args.image.now c.args.point.address ≡ Some c.in-Some.at = search rules in
    bad_site _ _ _ _ c.bad-in_default-decode_with_length.ensures.code c.bad-in_default-decode_with_length.ensures.ends_pair
    (unknown c.in-Some.at fetched none refl) (no_half _ _ _ fetched none)

pub returns : goal.returns
returns c =
    let fetches = fetches_of c.args.image.now in
    let has : HasInstr fetches c.args.point.address c.in-Some.at c.in-Some-decode_with_length.instr =
    record { fetched = search rules; means = search rules } in
    let upper : HasUpper fetches c.args.point.address (base_of c.in-Some-decode_with_length.instr) c.upper_before-upper.result =
    subst (λ (r : ℕ). HasUpper fetches c.args.point.address r c.upper_before-upper.result) c.base_of.ensures c.upper_before-upper.ensures in
    let flow =
    ap (λ n. flow_of fetches.unit c.args.point.address n c.upper_before-upper.result c.in-Some-decode_with_length.instr) (sym c.next-next.ensures)
    ∙ sym c.flow_of.ensures in
    elim c.match-flow_of.branch [
      | in-Ok w ↦ good_site _ _ _ _ _ _ has upper c.is_some.ensures _ w.in-Ok.flow (flow ∙ w.in-Ok.is) w.code-is
      | in-Err w ↦ unflowing_site _ _ _ _ _ _ has upper c.is_some.ensures _ w.in-Err.cause (flow ∙ w.in-Err.is) w.code-is
    ]
