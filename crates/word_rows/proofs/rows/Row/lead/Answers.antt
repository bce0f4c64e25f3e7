use Rattle.std.proofs.Common.{length, ap, sym, ◌∙◌, arith, rules}
use Rattle.word_rows.specs.Rows.{lead}
use Rattle.word_rows.proofs.Laws.{lead-zeros, get_or_at_lead, get_or_before_lead}
use Rattle.word_rows.proofs.Leads.{zeros_from_lead}
use Rattle.word_rows.proofs.rows.Row.lead.Goals as goal

pub returns-then-first-clause-zero : goal.returns-then-first-clause-zero
returns-then-first-clause-zero g c = (
  (λ e. absurd (search rules)),
  (λ zeros. absurd (omega (arith, c.lead_of-first.ensures ∙ ap lead (c.self.view_is ∙ zeros), lead-zeros g.row.N))),
)

pub returns-then-first-clause-pivot : goal.returns-then-first-clause-pivot
returns-then-first-clause-pivot g c = rw (c.lead_of-first.ensures ∙ ap lead c.self.view_is)
    (get_or_at_lead c.args.self.now (omega (arith, c.lead_of-first.ensures ∙ ap lead c.self.view_is, ap length (sym c.self.view_is) ∙ c.self.told)))

pub returns-then-first-clause-before : goal.returns-then-first-clause-before
returns-then-first-clause-before g c i below =
    get_or_before_lead c.args.self.now i (omega (arith, c.lead_of-first.ensures ∙ ap lead c.self.view_is))

pub returns-else-first-clause-zero : goal.returns-else-first-clause-zero
returns-else-first-clause-zero g c = (
  (λ e. zeros_from_lead g.row.N c.args.self.now (ap length (sym c.self.view_is) ∙ c.self.told) (omega (arith, c.lead_of-first.ensures ∙ ap lead c.self.view_is))),
  (λ zeros. search rules),
)
