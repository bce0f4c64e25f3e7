use Rattle.std.proofs.Common.{[], ◌∷◌, ap, ◌∙◌}
use Rattle.report_lines.specs.Parts.{parts_of}
use Rattle.report_lines.proofs.Cuts.{one_part, parts_cut}
use Rattle.report_lines.proofs.FrontsRead.{front_first, lead_alone, no_relation}
use Rattle.report_lines.proofs.relation.read_relation.Goals as goal

pub returns-in-None-read_lead : goal.returns-in-None-read_lead
returns-in-None-read_lead c =
    no_relation c.args.text.now c.args.text.now [] (one_part 32 c.args.text.now c.in-None.ensures) c.in-None-read_lead.ensures

pub returns-in-Some-read_lead : goal.returns-in-Some-read_lead
returns-in-Some-read_lead c =
    let alone = lead_alone c.args.text.now (c.in-Some-read_lead.word, c.in-Some-read_lead.name.now) c.in-None.ensures c.in-Some-read_lead.ensures.0 c.in-Some-read_lead.ensures.1 in (
      (c.in-Some-read_lead.word, c.in-Some-read_lead.name.now) ∷ [],
      0,
      alone.0,
      alone.1,
      c.with_constant.ensures c.args.names.now c.args.procedure ((c.in-Some-read_lead.word, c.in-Some-read_lead.name.now) ∷ []) c.requires.few
          (c.plus-sum.ensures [] (c.none.ensures c.args.names.now c.args.procedure)),
    )

pub returns-in-None-read_lead-2 : goal.returns-in-None-read_lead-2
returns-in-None-read_lead-2 c =
    no_relation c.args.text.now c.in-Some.lead.now (parts_of 32 c.in-Some.behind.now)
    (ap (parts_of 32) c.in-Some.ensures.0 ∙ parts_cut 32 c.in-Some.lead.now c.in-Some.behind.now c.in-Some.ensures.1) c.in-None-read_lead-2.ensures

pub returns-in-Some-read_lead-2 : goal.returns-in-Some-read_lead-2
returns-in-Some-read_lead-2 c =
    let lead = c.in-Some-read_lead-2.ensures in
    c.read_behind.ensures c.args.text.now ((c.in-Some-read_lead-2.word, c.in-Some-read_lead-2.name.now) ∷ [])
    (front_first c.args.text.now c.in-Some.lead.now c.in-Some.behind.now (c.in-Some-read_lead-2.word, c.in-Some-read_lead-2.name.now) c.in-Some.ensures lead.0 lead.1)
    (c.plus-sum-in-Some-read_lead-2.ensures [] (c.none-in-Some-read_lead-2.ensures c.args.names.now c.args.procedure))
