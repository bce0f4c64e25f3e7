-- The lines of a procedure's first point, of a further one, and of the end, are judged to tell these.
use Rattle.std.proofs.Common.{◌≡◌, ◌≢◌, ℕ, suc, ◌+◌, ◌<◌, ◌^◌, true, false, cond, eqb, List, [], ◌∷◌, ◌++◌, length, map, take, drop, codes, append_assoc, Option, Some, Ok, refl, sym, subst, ap, ◌∙◌, arith, ⊎_elim}
use Rattle.std.specs.Prelude.{◌⊎◌}
use Rattle.std.specs.List.{AllPairs}
use Rattle.std.proofs.lemmas.Bool.{eq-eqb}
use Rattle.std.proofs.lemmas.List.{take-append-drop}
use Rattle.std.proofs.lemmas.List.Elements.{All-from_recursion, All-nil}
use Rattle.report_text.specs.declared.certs.ReportCert.{ReportCert}
use Rattle.report_text.specs.declared.names.Name.{Name}
use Rattle.report_text.specs.declared.points.PointRows.{PointRows}
use Rattle.report_text.specs.declared.reports.Report.{Report}
use Rattle.report_text.specs.Certificates.{site_of}
use Rattle.report_text.specs.Reports.{AreRowsAt, Ascend}
use Rattle.report_text.specs.Text.{certs_text, opening_text, point_text, points_text, proc_text}
use Rattle.report_lines.specs.Lines.{Proc, End}
use Rattle.report_lines.specs.Parts.{parts_of}
use Rattle.report_lines.proofs.Cuts.{one_part}
use Rattle.report_read.specs.declared.draft.Draft.{Draft}
use Rattle.report_read.specs.declared.draft.Place.{Place}
use Rattle.report_read.specs.declared.draft.Place.TheVariants as places
use Rattle.report_read.specs.Drafts.{IsOrderedAt, is_allowed_at, wanted_in}
use Rattle.report_read.specs.Judging.{IsJudged, whole}
use Rattle.report_read.specs.Written.{IsOfWords}
use Rattle.report_read.proofs.CertsAgain.{proc_run}
use Rattle.report_read.proofs.Left.{ending, first_point}
use Rattle.report_read.proofs.LeftProc.{regroup}
use Rattle.report_read.proofs.LinesAgain.{Closes, judge_line, other_next}
use Rattle.report_read.proofs.PointsAgain.{point_run}
use Rattle.report_read.proofs.LinesThere.{IsLineThere, IsRowThere}
use Rattle.report_read.proofs.RelationsAgain.{line_there}
use Rattle.report_read.proofs.OwnSites.{FollowFrom, in_procedure, own_dropped, own_taken}
use Rattle.report_read.proofs.Sites.{opened, same_opened, sites, sites_in}

-- points in order behind this address of a procedure
abbrev pub AscendFrom : ℕ → ℕ → List PointRows → Type 0
AscendFrom b a [] = Unit {0}
AscendFrom b a (q ∷ points) = ((b < q.proc_entry) ⊎ ((b ≡ q.proc_entry) × (a < q.address))) × AscendFrom q.proc_entry q.address points

pub ascend_from : (q : PointRows) (points : List PointRows) → Ascend (q ∷ points) → AscendFrom q.proc_entry q.address points
ascend_from q [] h = tt
ascend_from q (p ∷ points) h = (h 0 1 q (omega arith) (omega arith), ascend_from p points (λ i j d lt below. h (suc i) (suc j) d (omega arith) (omega arith)))

pub follow_from : (b a : ℕ) (points : List PointRows) → AscendFrom b a points → FollowFrom b points
follow_from b a [] h = tt
follow_from b a (q ∷ points) h = (⊎_elim (λ l. omega arith) (λ r. omega (arith, r.0)) h.0, follow_from q.proc_entry q.address points h.1)

module _ (report : Report) (words : IsOfWords report) (distinct : AllPairs (λ (a : Name) b. a ≢ b) report.tracked.names) where
  abbrev names : List Name
  names = report.tracked.names

  abbrev registers : List ℕ
  registers = wanted_in report.version report.tracked.names

  abbrev pub here : List ReportCert → List PointRows → Place → Draft
  here certs points place = record { version = report.version; tracked = report.tracked; certs = certs; points = points; place = place }

  pub record IsPointThere (q : PointRows) : Type 0 where
    pub procedure : q.proc_entry < 2 ^ 64
    pub address : q.address < 2 ^ 64
    pub rows : AreRowsAt report.tracked.names q

  row_line : (entry : ℕ) (row : List ℕ) → IsRowThere names entry row → IsLineThere names entry row
  row_line entry row there = line_there names report.tracked.allowed words.names distinct report.tracked.few entry row there

  pub end_run : (place : Place) (k : ℕ) (d : Draft) (certs : List ReportCert) (points : List PointRows)
      → Closes d (here certs points place) → certs ≡ report.certs → points ≡ report.points
      → is_allowed_at report.version place End ≡ true → IsOrderedAt (here certs points place) place End
      → IsJudged (parts_of 10 ending) k d (Ok report)
  end_run place k d certs points closes c p allowed ordered =
      judge_line k d (here certs points places.End) End [] (Ok report) tt (All-from_recursion (λ b. eqb b 10 ≡ false) (codes "end") (refl, (refl, (refl, tt))))
      (other_next k d (here certs points place) (here certs points places.End) End refl closes allowed tt ordered refl)
      (subst (λ (ps : List (List ℕ)). IsJudged ps (k + 1) (here certs points places.End) (Ok report)) (sym (one_part 10 [] (All-nil (λ b. eqb b 10 ≡ false))))
      (whole report refl refl (record { version_is = refl; tracked_is = refl; certs_are = sym c; points_are = sym p }) refl))

  -- what comes behind a point is judged
  abbrev pub GoesOn : PointRows → List PointRows → List PointRows → Type 0
  GoesOn q seen points = (k : ℕ) (d : Draft) (certs later : List ReportCert) → Closes d (here certs (seen ++ q ∷ []) (places.Told q.proc_entry q.address)) → certs ++ later ≡ report.certs
      → map site_of later ≡ sites registers (Some q.proc_entry) points
      → IsJudged (parts_of 10 (points_text names later (Some q.proc_entry) points ++ ending)) k d (Ok report)

  -- the first point of a procedure
  pub new_run : (place : Place) (before : Option ℕ) (q : PointRows) (points : List PointRows) (k : ℕ) (d : Draft) (certs : List ReportCert) (seen : List PointRows) (later : List ReportCert)
      → Closes d (here certs seen place) → is_allowed_at report.version place (Proc q.proc_entry) ≡ true
      → IsOrderedAt (here certs seen place) place (Proc q.proc_entry)
      → opened registers before q.proc_entry ≡ sites_in q.proc_entry registers
      → opening_text before q.proc_entry ≡ proc_text q.proc_entry → certs ++ later ≡ report.certs
      → map site_of later ≡ sites registers before (q ∷ points) → AscendFrom q.proc_entry q.address points → IsPointThere q
      → GoesOn q seen points
      → IsJudged (parts_of 10 (points_text names later before (q ∷ points) ++ ending)) k d (Ok report)
  new_run place before q points k d certs seen later closes allowed ordered opens opening is are ascend there goes =
      let mine = sites_in q.proc_entry registers in
      let own = take (length mine) later in
      let rest = drop (length mine) later in
      let split : map site_of later ≡ mine ++ sites registers (Some q.proc_entry) points = are ∙ (λ i. opens i ++ sites registers (Some q.proc_entry) points) in
      let own_are = own_taken later mine (sites registers (Some q.proc_entry) points) split in
      let rest_are = own_dropped later mine (sites registers (Some q.proc_entry) points) split in
      let both : own ++ rest ≡ later = take-append-drop (length mine) later in
      let text : points_text names later before (q ∷ points) ++ ending
      ≡ proc_text q.proc_entry ++ (certs_text own ++ (point_text names q ++ (points_text names rest (Some q.proc_entry) points ++ ending))) =
      ap (λ (cs : List ReportCert). points_text names cs before (q ∷ points) ++ ending) (sym both)
      ∙ ap (λ (xs : List ℕ). xs ++ ending) (first_point names registers before q.proc_entry mine own rest q points refl own_are
      (in_procedure q.proc_entry (λ s. s.0 ≡ q.proc_entry) registers (λ r. refl)) rest_are (follow_from q.proc_entry q.address points ascend))
      ∙ (λ i. (((opening i ++ certs_text own) ++ point_text names q) ++ points_text names rest (Some q.proc_entry) points) ++ ending)
      ∙ sym (regroup (proc_text q.proc_entry) (certs_text own) (point_text names q) (points_text names rest (Some q.proc_entry) points) ending) in
      subst (λ (xs : List ℕ). IsJudged (parts_of 10 xs) k d (Ok report)) (sym text)
      (proc_run report.version report.tracked (Ok report) seen place q.proc_entry k d own certs (point_text names q ++ (points_text names rest (Some q.proc_entry) points ++ ending))
      closes there.procedure allowed ordered own_are
      (λ k' count all. point_run report.version report.tracked (certs ++ own) seen (Ok report) (places.Procedure q.proc_entry count) q.proc_entry q.address k' q.state
      (here (certs ++ own) seen (places.Procedure q.proc_entry count)) (points_text names rest (Some q.proc_entry) points ++ ending)
      (record { fine = tt; told_so = refl }) refl there.address refl all there.rows (row_line q.proc_entry)
      (λ k2 d2 closes2. goes k2 d2 (certs ++ own) rest closes2 (append_assoc certs own rest ∙ ap (λ (cs : List ReportCert). certs ++ cs) both ∙ is) rest_are)))

  -- a further point of a procedure
  pub same_run : (b a : ℕ) (q : PointRows) (points : List PointRows) (k : ℕ) (d : Draft) (certs : List ReportCert) (seen : List PointRows) (later : List ReportCert)
      → Closes d (here certs seen (places.Told b a)) → b ≡ q.proc_entry → a < q.address → certs ++ later ≡ report.certs
      → map site_of later ≡ sites registers (Some b) (q ∷ points) → AscendFrom q.proc_entry q.address points → IsPointThere q
      → GoesOn q seen points
      → IsJudged (parts_of 10 (points_text names later (Some b) (q ∷ points) ++ ending)) k d (Ok report)
  same_run b a q points k d certs seen later closes same less is are ascend there goes =
      let rest_are : map site_of later ≡ sites registers (Some q.proc_entry) points = are ∙ (λ i. same_opened registers b q.proc_entry same i ++ sites registers (Some q.proc_entry) points) in
      let text : points_text names later (Some b) (q ∷ points) ++ ending ≡ point_text names q ++ (points_text names later (Some q.proc_entry) points ++ ending) =
      ap (λ (xs : List ℕ). xs ++ ending) (first_point names registers (Some b) q.proc_entry [] [] later q points refl refl tt rest_are (follow_from q.proc_entry q.address points ascend))
      ∙ ap (λ t. (((cond t [] (proc_text q.proc_entry) ++ certs_text []) ++ point_text names q) ++ points_text names later (Some q.proc_entry) points) ++ ending) (eq-eqb b q.proc_entry same)
      ∙ append_assoc (point_text names q) (points_text names later (Some q.proc_entry) points) ending in
      subst (λ (xs : List ℕ). IsJudged (parts_of 10 xs) k d (Ok report)) (sym text)
      (point_run report.version report.tracked certs seen (Ok report) (places.Told b a) q.proc_entry q.address k q.state d (points_text names later (Some q.proc_entry) points ++ ending)
      closes same there.address refl less there.rows (row_line q.proc_entry)
      (λ k2 d2 closes2. goes k2 d2 certs later closes2 is rest_are))
