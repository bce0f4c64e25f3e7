-- What a whole report keeps of its certificates.
use Rattle.std.proofs.Common.{◌≡◌, ℕ, List, [], ◌∷◌, ◌++◌, length, map, Bool, true, false, cond, eqb, Option, Some, None, refl, sym, subst, ap, ◌∙◌, arith}
use Rattle.std.proofs.lemmas.Bool.{eq-eqb, ne_eqb}
use Rattle.report_text.specs.declared.certs.ReportCert.{ReportCert}
use Rattle.report_text.specs.declared.points.PointRows.{PointRows}
use Rattle.report_text.specs.Certificates.{AreCertsOf, certified_names, site_of}
use Rattle.report_read.specs.declared.draft.Draft.{Draft}
use Rattle.report_read.specs.declared.draft.Place.TheVariants as places
use Rattle.report_read.specs.Drafts.{are_wanted}
use Rattle.report_read.proofs.Sites.{Site, sites, sites_are}
use Rattle.report_read.proofs.Kept.{IsKept, IsKeptAt}

-- what a whole report keeps of its certificates
pub either_way : (t : Bool) (ss : List Site) → cond t ss ss ≡ ss
either_way true ss = refl
either_way false ss = refl

pub no_sites : (before : Option ℕ) (points : List PointRows) → sites [] before points ≡ []
no_sites before [] = refl
no_sites None (q ∷ points) = no_sites (Some q.proc_entry) points
no_sites (Some b) (q ∷ points) = (λ i. either_way (eqb b q.proc_entry) [] i ++ sites [] (Some q.proc_entry) points) ∙ no_sites (Some q.proc_entry) points

pub no_certs : (certs : List ReportCert) → map site_of certs ≡ [] → certs ≡ []
no_certs [] e = refl
no_certs (c ∷ certs) e = absurd (omega (arith, ap (λ (ss : List (ℕ × ℕ)). length ss) e))

module _ (d : Draft) (kept : IsKept d) (ended : d.place ≡ places.End) where
  pub all_certs : map site_of d.certs ≡ sites (are_wanted d) None d.points
  all_certs = subst (IsKeptAt d) ended kept.placed

  pub without_certs : d.version ≡ 1 → d.certs ≡ []
  without_certs one =
      no_certs d.certs (all_certs ∙ ap (λ (b : Bool). sites (cond b (certified_names d.tracked.names) []) None d.points) (ne_eqb d.version 2 (λ e. omega arith)) ∙ no_sites None d.points)

  pub with_certs : d.version ≡ 2 → AreCertsOf d.tracked.names d.points d.certs
  with_certs two =
      all_certs ∙ ap (λ (b : Bool). sites (cond b (certified_names d.tracked.names) []) None d.points) (eq-eqb d.version 2 two)
      ∙ sym (sites_are (certified_names d.tracked.names) d.points)
