-- What each draft keeps, by the kind of a line.
use Rattle.std.proofs.Common.{◌≡◌, ℕ, ◌+◌, ◌<◌, ◌≤◌, true, ◌==◌, List, [], ◌∷◌, ◌++◌, All, length, map, take, append_assoc, Option, Some, None, refl, sym, ap, ◌∙◌, arith, inl, inr, ⊎_elim}
use Rattle.std.specs.Prelude.{slice_get}
use Rattle.std.proofs.lemmas.List.{append-nil, take_all}
use Rattle.std.proofs.lemmas.List.Elements.{All-push, All-nil, All-weaker}
use Rattle.std.proofs.lemmas.Option.{slice_get_within}
use Rattle.rv_decode.specs.Registers.{name_of_register}
use Rattle.report_text.specs.declared.certs.ReportCert.{ReportCert}
use Rattle.report_text.specs.declared.points.PointRows.{PointRows}
use Rattle.report_text.specs.declared.points.PointState.TheVariants as states
use Rattle.report_text.specs.Reports.{IsBefore}
use Rattle.report_text.specs.Certificates.{certified_names, site_of}
use Rattle.report_read.specs.declared.draft.Draft.{Draft}
use Rattle.report_read.specs.declared.draft.Place.TheVariants as places
use Rattle.report_read.specs.Drafts.{are_wanted}
use Rattle.report_read.proofs.Sites.{Site, opened, same_opened, sites, sites_in}
use Rattle.report_read.proofs.Kept.{at, IsAtPoint, IsBehindPoint, IsInProcedure, IsRowAt, IsUpTo}
use Rattle.report_read.proofs.CertsKept.{first_opened, wanted_next, taken_next, sites_more, certs_more, wanted_two}

-- a certificate more
pub kept_cert : (d : Draft) (entry count : ℕ) (name : List ℕ) (cert : ReportCert) → (d.version == 2) ≡ true
    → IsInProcedure d entry count
    → (r : ℕ) → slice_get (certified_names d.tracked.names) count ≡ Some r → name ≡ name_of_register r
    → cert.proc_entry ≡ entry → name_of_register cert.register ≡ name
    → IsInProcedure (record d { certs = d.certs ++ cert ∷ []; place = places.Procedure entry (count + 1) }) entry (count + 1)
kept_cert d entry count name cert two kept r there named own same =
    let wanted : are_wanted d ≡ certified_names d.tracked.names = wanted_two d two in
    let at_count : slice_get (are_wanted d) count ≡ Some r = ap (λ (rs : List ℕ). slice_get rs count) wanted ∙ there in
    let register : cert.register ≡ r = wanted_next d.tracked.names count r cert.register there cert.certified (same ∙ named) in
    record {
      before = kept.before;
      few = omega (arith, slice_get_within (are_wanted d) count r at_count);
      certs = certs_more d.certs cert ∙ (λ i. kept.certs i ++ (own i, register i) ∷ [])
          ∙ append_assoc (sites (are_wanted d) None d.points) (sites_in entry (take count (are_wanted d))) ((entry, r) ∷ [])
          ∙ ap (λ (ss : List Site). sites (are_wanted d) None d.points ++ ss) (sym (sites_more entry r (take count (are_wanted d))) ∙ ap (sites_in entry) (sym (taken_next (are_wanted d) count r at_count)));
    }

-- the line of a procedure's first point
pub kept_first : (d : Draft) (entry count address : ℕ) → IsInProcedure d entry count → length (are_wanted d) ≤ count
    → IsAtPoint d entry address []
kept_first d entry count address kept all = record {
  before = All-weaker (λ q. q.proc_entry < entry) (λ q. IsBefore q (at entry address states.Unreached)) (λ q l. inl l) d.points kept.before;
  certs = kept.certs ∙ ap (λ (ss : List Site). sites (are_wanted d) None d.points ++ ss)
      (ap (sites_in entry) (take_all count (are_wanted d) all) ∙ sym (first_opened (are_wanted d) entry d.points kept.before));
  each_row = All-nil (IsRowAt d.tracked.names entry);
}

-- the line of a further point
pub kept_further : (d : Draft) (entry before' address : ℕ) → IsBehindPoint d entry before' → before' < address
    → IsAtPoint d entry address []
kept_further d entry before' address kept less = record {
  before = All-weaker (IsUpTo entry before') (λ q. IsBefore q (at entry address states.Unreached))
      (λ q u. ⊎_elim (λ l. inl l) (λ r. inr (r.0, omega (arith, r.1))) u) d.points kept.before;
  certs = kept.certs ∙ sym (append-nil (sites (are_wanted d) None d.points))
      ∙ ap (λ (ss : List Site). sites (are_wanted d) None d.points ++ ss) (sym (same_opened (are_wanted d) entry entry refl) ∙ ap (λ (o : Option ℕ). opened (are_wanted d) o entry) (sym kept.last));
  each_row = All-nil (IsRowAt d.tracked.names entry);
}

-- the line of a procedure
pub kept_proc : (d : Draft) (entry : ℕ) → All (λ q. q.proc_entry < entry) d.points
    → map site_of d.certs ≡ sites (are_wanted d) None d.points → IsInProcedure d entry 0
kept_proc d entry all certs = record { before = all; few = omega arith; certs = certs ∙ sym (append-nil (sites (are_wanted d) None d.points)) }

pub kept_row : (d : Draft) (entry address : ℕ) (rows : List (List ℕ)) (row : List ℕ) → IsAtPoint d entry address rows
    → IsRowAt d.tracked.names entry row → IsAtPoint d entry address (rows ++ row ∷ [])
kept_row d entry address rows row kept fine =
    record { before = kept.before; certs = kept.certs; each_row = All-push (IsRowAt d.tracked.names entry) rows row kept.each_row fine }

pub nothing_yet : (d : Draft) → d.points ≡ [] → d.certs ≡ [] → map site_of d.certs ≡ sites (are_wanted d) None d.points
nothing_yet d points certs = ap (map site_of) certs ∙ ap (λ (ps : List PointRows). sites (are_wanted d) None ps) (sym points)
