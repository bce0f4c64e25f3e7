use Rattle.std.proofs.Common.{◌+◌, inl, inr, ap, arith}
use Rattle.std.proofs.lemmas.Bool.{cases_lt}
use Rattle.word_rows.specs.Rows.{lead}
use Rattle.lead_basis.proofs.Reached.{basis_reached, later_at_end, later_from}
use Rattle.lead_basis.proofs.place.find_lead.Goals as goal
use Rattle.lead_basis.proofs.place.find_lead.Goals.{else-at-rows-via-then-at-rows+else-leads_before-2, else-at-rows-via-else-at-rows}

pub returns-else-at-rows : goal.returns-else-at-rows
returns-else-at-rows g c =
    let r = c.loop-at.invariant in
    let basis = basis_reached g.row.N c.args.from c.loop-at.at c.args.rows.now r.start r.end c.requires.basis in
    record {
      reached = r;
      later = elim c.else-at-rows.branch [
        | else-at-rows-via-then-at-rows+else-leads_before-2 w ↦
            let row = w.index-rows-at-then-at-rows.result in
            let is = ap lead w.index-rows-at-then-at-rows.is in
            let told = w.leads_before-then-at-rows.ensures in
            let no = w.if-leads_before-2.false in
            later_from g.row.N c.args.position c.loop-at.at w.index-rows-at-then-at-rows.result c.args.rows.now w.if-at-rows.true basis
            (elim (cases_lt (lead w.index-rows-at-then-at-rows.result) (c.args.position + 1)) [ inl lt ↦ absurd (cc (told.1 lt)) | inr ge ↦ omega arith ])
        | else-at-rows-via-else-at-rows w ↦ let past = w.if-at-rows.false in let end = r.end in later_at_end c.args.position c.loop-at.at c.args.rows.now (omega arith)
      ];
    }
