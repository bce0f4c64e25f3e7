-- A line makes one thing of a report.
use Rattle.std.proofs.Common.{◌≡◌, ℕ, sym, ap, ◌∙◌}
use Rattle.report_text.specs.declared.certs.ReportCert.{ReportCert}
use Rattle.report_lines.specs.Lines.{Line, Proc, Cert, At, NoRows, Unreached, Rel, End}
use Rattle.report_lines.proofs.NamesTold.{one_register}
use Rattle.report_read.specs.declared.draft.Draft.{Draft}
use Rattle.report_read.specs.declared.draft.Place.{Place}
use Rattle.report_read.specs.Drafts.{BecomesAt, entry_at, with_cert_at, with_row_at}
use Rattle.report_read.proofs.CertsKept.{register_fits}
use Rattle.report_read.proofs.OneRow.{AreApart, one_row}
use Rattle.report_read.proofs.Sets.{same_cert}

-- what a line makes of the report
pub one_next : (k : ℕ) (d : Draft) (place : Place) (line : Line) (m n : Draft) → AreApart d.tracked.names
    → BecomesAt k d place line m → BecomesAt k d place line n → m ≡ n
one_next k d place (Proc entry) m n apart p q = p ∙ sym q
one_next k d place (Cert name word) m n apart p q =
    let c : ReportCert = p.0 in
    let e : ReportCert = q.0 in
    let register : c.register ≡ e.register = one_register c.register e.register (register_fits c.register c.certified) (register_fits e.register e.certified) (p.2 ∙ sym q.2) in
    p.4 ∙ ap (with_cert_at d place) (same_cert c e (p.1 ∙ sym q.1) register (p.3 ∙ sym q.3)) ∙ sym q.4
one_next k d place (At address) m n apart p q = p ∙ sym q
one_next k d place NoRows m n apart p q = p ∙ sym q
one_next k d place Unreached m n apart p q = p ∙ sym q
one_next k d place (Rel terms c) m n apart p q =
    p.2 ∙ ap (with_row_at d place) (one_row d.tracked.names apart d.tracked.few (entry_at place) terms c p.0 q.0 p.1 q.1) ∙ sym q.2
one_next k d place End m n apart p q = p ∙ sym q
