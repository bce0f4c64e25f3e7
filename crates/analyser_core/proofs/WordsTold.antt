-- The certificates that a report tells are of its points' procedures.
use Rattle.std.proofs.Common.{◌≡◌, ℕ, ◌<◌, List, map, length, get_or, sym, ap, ◌∙◌, arith}
use Rattle.std.proofs.lemmas.Grind.{same_number_lists}
use Rattle.std.proofs.lemmas.List.{get_or-map, length-map}
use Rattle.std.proofs.lemmas.Option.{get_or_from_slice_get, slice_get-get_or}
use Rattle.std.proofs.lemmas.Simd.{map-map}
use Rattle.std.specs.List.{dedup}
use Rattle.std.specs.Prelude.{nat_eq}
use Rattle.affine_prog.specs.declared.Program.{Program}
use Rattle.flow_points.specs.PointLists.{FlowPoints, HasCode, entries_of}
use Rattle.report_text.specs.declared.names.Name.{Name}
use Rattle.report_text.specs.declared.certs.CertWord.{CertWord}
use Rattle.report_text.specs.declared.certs.ReportCert.{ReportCert}
use Rattle.report_text.specs.declared.points.PointRows.{PointRows}
use Rattle.report_text.specs.declared.points.PointState.TheVariants.{Unreached}
use Rattle.report_text.specs.Certificates as report
use Rattle.report_text.specs.Certificates.{certified_names, procedures_of, AreCertsOf, sites_of}
use Rattle.analyser_core.specs.declared.cert_line.CertLine.{CertLine}
use Rattle.analyser_core.specs.Certified.{site_of, told_in, told_of, AreCertificatesAt, AreCertificatesOf}
use Rattle.analyser_core.specs.Told.{AreTold}

site_in : ℕ × ℕ × CertWord → ℕ × ℕ
site_in told = (told.0, told.1)

sites_told : (words : List ReportCert) (certs : List CertLine) → map told_of words ≡ map told_in certs → map report.site_of words ≡ map site_of certs
unfolding site_in
sites_told words certs same = sym (map-map site_in told_of words) ∙ ap (map site_in) same ∙ map-map site_in told_in certs

pub certs_told_at : (program : Program) (points : FlowPoints) (names : List Name) (told : List PointRows) (words : List ReportCert)
    (certs : List CertLine) → AreCertificatesAt program points names (procedures_of told) certs → map told_of words ≡ map told_in certs →
    AreCertsOf names told words
certs_told_at program points names told words certs are same = sites_told words certs same ∙ are.sites

unreached_at_0 : PointRows
unreached_at_0 = record { proc_entry = 0; address = 0; state = Unreached }

entries_told : (program : Program) (points : FlowPoints) (names : List Name) (told : List PointRows) → AreTold program points names told →
    length told ≡ length points.points → map (λ p. p.proc_entry) told ≡ entries_of points.points
entries_told program points names told all count =
    same_number_lists (map (λ p. p.proc_entry) told) (entries_of points.points)
    (length-map told (λ p. p.proc_entry) ∙ count ∙ sym (length-map points.points (λ c. c.point.proc_entry)))
    (λ k below.
    let within : k < length told = omega (arith, below, length-map told (λ (p : PointRows). p.proc_entry)) in
    let d = unreached_at_0 in
    let p = all k (get_or told k d) (slice_get-get_or told k d within) in
    get_or-map (λ p. p.proc_entry) told k d 0 within ∙ p.tells.procedure
    ∙ ap (λ c. c.point.proc_entry) (sym (get_or_from_slice_get points.points k p.code p.code p.at))
    ∙ sym (get_or-map (λ c. c.point.proc_entry) points.points k p.code 0 (omega (arith, within, count))))

pub certs_told : (program : Program) (points : FlowPoints) (names : List Name) (told : List PointRows) (words : List ReportCert) (certs : List CertLine) →
    HasCode points → AreTold program points names told → length told ≡ length points.points → AreCertificatesOf program points names certs →
    map told_of words ≡ map told_in certs → AreCertsOf names told words
certs_told program points names told words certs code all count are same =
    let procedures : points.procedures ≡ procedures_of told =
    code.are.procedures_are ∙ ap (dedup nat_eq) (sym (entries_told program points names told all count)) in
    sites_told words certs same ∙ are.sites ∙ ap (λ ps. sites_of ps (certified_names names)) procedures
