-- A certificate's line that is in order.
use Rattle.std.proofs.Common.{◌≡◌, ℕ, ◌+◌, true, List, [], ◌∷◌, ◌++◌, Ok, refl, sym, subst, ap, ◌∙◌}
use Rattle.std.proofs.lemmas.Bool.{eq-eqb}
use Rattle.report_text.specs.declared.certs.ReportCert.{ReportCert}
use Rattle.report_lines.specs.Lines.{Cert}
use Rattle.report_read.specs.declared.draft.Draft.{Draft}
use Rattle.report_read.specs.declared.draft.Place.{Place}
use Rattle.report_read.specs.declared.draft.Place.TheVariants as places
use Rattle.report_read.specs.Drafts.{IsOrderedAt, entry_at, is_allowed_at, place_with_cert}
use Rattle.report_read.specs.Steps.{IsLineStep, IsNextCert}

pub cert_stepped : (k : ℕ) (d : Draft) (name : List ℕ) (entry count : ℕ) (cert : ReportCert) (certs : List ReportCert)
    → IsNextCert d name entry count cert → certs ≡ d.certs ++ cert ∷ []
    → IsLineStep k d (Cert name cert.word) (Ok (record d { certs = certs; place = places.Procedure entry (count + 1) }))
cert_stepped k d name entry count cert certs next more =
    let at = next.place_is in (
      subst (λ (p : Place). is_allowed_at d.version p (Cert name cert.word) ≡ true) (sym at) (eq-eqb d.version 2 next.version_is),
      next.known,
      subst (λ (p : Place). IsOrderedAt d p (Cert name cert.word)) (sym at) (cert.register, next.register_is, next.name_is),
      (
        cert,
        next.procedure_is ∙ sym (ap entry_at at),
        sym next.name_is,
        refl,
        (λ i. record d { certs = more i; place = place_with_cert (sym at i) }),
      ),
    )
