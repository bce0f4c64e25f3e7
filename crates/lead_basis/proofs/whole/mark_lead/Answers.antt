use Rattle.std.proofs.Common.{rules, set, ◌≡◌, List, ℕ, sym, subst}
use Rattle.lead_basis.specs.Whole.{HasWhole, IsOn}
use Rattle.lead_basis.proofs.Marked.{lead_marked}
use Rattle.lead_basis.proofs.whole.mark_lead.Goals as goal

pub returns-then-is_on : goal.returns-then-is_on
returns-then-is_on g c = λ rows are there whole.
    let more : c.with-more.result ≡ set c.args.marks.now c.in-Some.lead 1 = c.with-more.ensures in
    let on : IsOn (set c.args.marks.now c.in-Some.lead 1) c.args.row.now = subst (λ (m : List ℕ). IsOn m c.args.row.now) more (c.is_on.ensures c.if-is_on.true) in
    subst (λ (m : List ℕ). HasWhole g.row.N rows m) (sym more)
    (lead_marked g.row.N rows are c.args.marks.now whole c.args.row.now c.in-Some.lead c.known.ensures.row c.known-2.ensures.row.width c.in-Some.ensures.within there (search rules) on)
