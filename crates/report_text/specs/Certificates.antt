-- The certificates of a report of version 2.
--
--   certified_names names        the certified ones of the tracked registers, in track order
--   procedures_of points         the procedures of the points, in their order, each once
--   sites_of procedures registers   each procedure with each of the registers, in order
--   site_of cert                 the procedure and the register of a certificate
--   AreCertsOf names points certs   there is one for each procedure of the points and each certified name, in this order
use Rattle.std.specs.Prelude.{◌≡◌, ℕ, nat_eq, List, [], ◌∷◌, map, if◌then◌else◌}
use Rattle.std.specs.List.{dedup, flat_map}
use Rattle.report_text.specs.Names.{is_certified}
use Rattle.report_text.specs.declared.names.Name.{Name}
use Rattle.report_text.specs.declared.names.Name.TheVariants.{Register, Slot}
use Rattle.report_text.specs.declared.points.PointRows.{PointRows}
use Rattle.report_text.specs.declared.certs.ReportCert.{ReportCert}

abbrev pub certified_names : List Name → List ℕ
certified_names [] = []
certified_names (Register r ∷ names) = if is_certified r then r ∷ certified_names names else certified_names names
certified_names (Slot p below ∷ names) = certified_names names

abbrev pub procedures_of : List PointRows → List ℕ
procedures_of points = dedup nat_eq (map (λ p. p.proc_entry) points)

abbrev pub sites_of : List ℕ → List ℕ → List (ℕ × ℕ)
sites_of procedures registers = flat_map (λ p. map (λ r. (p, r)) registers) procedures

abbrev pub site_of : ReportCert → ℕ × ℕ
site_of cert = (cert.proc_entry, cert.register)

abbrev pub AreCertsOf : List Name → List PointRows → List ReportCert → Type 0
AreCertsOf names points certs = map site_of certs ≡ sites_of (procedures_of points) (certified_names names)
