-- A line more is reached.
use Rattle.std.proofs.Common.{◌≡◌, ℕ, true, List, [], ◌∷◌, ◌++◌, append_assoc, Some, None, refl, sym, subst, ap, ◌∙◌, arith}
use Rattle.std.specs.Prelude.{slice_get}
use Rattle.report_text.specs.declared.points.PointState.TheVariants as states
use Rattle.report_text.specs.declared.reports.Report.{Report}
use Rattle.report_text.specs.declared.certs.CertWord.{CertWord}
use Rattle.report_lines.specs.Lines.{Line, Proc, Cert, At, NoRows, Unreached, Rel, End, IsLine, line_text}
use Rattle.report_read.specs.declared.draft.Draft.{Draft}
use Rattle.report_read.specs.declared.draft.Place.{Place}
use Rattle.report_read.specs.declared.draft.Place.TheVariants as places
use Rattle.report_read.specs.Drafts.{BecomesAt, IsOrderedAt, are_wanted, is_allowed_at}
use Rattle.report_read.proofs.OwnSites.{FollowFrom}
use Rattle.report_read.proofs.Sites.{other_opened}
use Rattle.report_read.proofs.Kept.{at}
use Rattle.report_read.proofs.CertsKept.{wanted_next, wanted_two}
use Rattle.report_read.proofs.Left.{IsLeftIn, opening_of_next}
use Rattle.report_read.proofs.LeftPoint.{before_cert, before_first_at, before_next_at}
use Rattle.report_read.proofs.LeftProc.{before_end, before_proc}
use Rattle.report_read.proofs.LeftMore.{before_first_rel, before_next_rel, before_state}
use Rattle.report_read.proofs.Reaching.{ReachesAt, Reaches, moved, untold, row_line}

module _ (k : ℕ) (d : Draft) (report : Report) (text : List ℕ) where
  pub step_at : (place : Place) (line : Line) (next : Draft) → IsLine line → is_allowed_at d.version place line ≡ true
      → IsOrderedAt d place line
      → BecomesAt k d place line next → Reaches next report text → ReachesAt d place report (line_text line ++ 10 ∷ text)
  step_at places.Top (Proc entry) next fits allowed ordered is reach =
      moved d places.Top (places.Procedure entry 0) report text (line_text (Proc entry) ++ 10 ∷ text)
      (λ certs points left. before_proc d.tracked.names (are_wanted d) entry certs points text left None refl refl
      (subst (λ (p : ℕ). FollowFrom p left.further) (sym left.procedure) left.left.follow))
      (subst (λ (n : Draft). Reaches n report text) is reach)
  step_at places.Top End next fits allowed ordered is reach =
      moved d places.Top places.End report text (line_text End ++ 10 ∷ text)
      (λ certs points none. before_end d.tracked.names (are_wanted d) None certs points text none)
      (subst (λ (n : Draft). Reaches n report text) is reach)
  step_at (places.Procedure entry count) (Cert name word) next fits allowed ordered is reach =
      let r = subst (λ (n : Draft). Reaches n report text) is.4 reach in
      let there : slice_get (are_wanted d) count ≡ Some ordered.0 = ap (λ (rs : List ℕ). slice_get rs count) (wanted_two d allowed) ∙ ordered.1 in
      record {
        certs = is.0 ∷ r.certs;
        points = r.points;
        version_is = r.version_is;
        tracked_is = r.tracked_is;
        certs_are = r.certs_are ∙ append_assoc d.certs (is.0 ∷ []) r.certs;
        points_are = r.points_are;
        left = subst (λ (w : CertWord). IsLeftIn d.tracked.names (are_wanted d) entry count (is.0 ∷ r.certs) r.points (line_text (Cert name w) ++ 10 ∷ text)) is.3
            (before_cert d.tracked.names (are_wanted d) entry count ordered.0 is.0 r.certs r.points name text there is.1
            (wanted_next d.tracked.names count ordered.0 is.0.register ordered.1 is.0.certified (is.2 ∙ ordered.2)) is.2 r.left);
      }
  step_at (places.Procedure entry count) (At address) next fits allowed ordered is reach =
      moved d (places.Procedure entry count) (places.Point entry address k) report text (line_text (At address) ++ 10 ∷ text)
      (λ certs points left. before_first_at d.tracked.names (are_wanted d) entry count address certs points text ordered left)
      (subst (λ (n : Draft). Reaches n report text) is reach)
  step_at (places.Point entry address line) NoRows next fits allowed ordered is reach =
      untold d (places.Point entry address line) (at entry address (states.Rows [])) entry address report text (line_text NoRows ++ 10 ∷ text)
      (λ certs points left. before_state d.tracked.names (are_wanted d) entry address certs points (states.Rows []) (line_text NoRows) text refl left)
      (subst (λ (n : Draft). Reaches n report text) is reach)
  step_at (places.Point entry address line) Unreached next fits allowed ordered is reach =
      untold d (places.Point entry address line) (at entry address states.Unreached) entry address report text (line_text Unreached ++ 10 ∷ text)
      (λ certs points left. before_state d.tracked.names (are_wanted d) entry address certs points states.Unreached (line_text Unreached) text refl left)
      (subst (λ (n : Draft). Reaches n report text) is reach)
  step_at (places.Point entry address line) (Rel terms c) next fits allowed ordered is reach =
      moved d (places.Point entry address line) (places.Rows entry address line (is.0 ∷ [])) report text (line_text (Rel terms c) ++ 10 ∷ text)
      (λ certs points left. before_first_rel d.tracked.names (are_wanted d) entry address certs points is.0 (line_text (Rel terms c)) text (row_line d entry terms c is.0 fits is.1) left)
      (subst (λ (n : Draft). Reaches n report text) is.2 reach)
  step_at (places.Rows entry address line rs) (Rel terms c) next fits allowed ordered is reach =
      moved d (places.Rows entry address line rs) (places.Rows entry address line (rs ++ is.0 ∷ [])) report text (line_text (Rel terms c) ++ 10 ∷ text)
      (λ certs points left. before_next_rel d.tracked.names (are_wanted d) entry address rs certs points is.0 (line_text (Rel terms c)) text (row_line d entry terms c is.0 fits is.1) left)
      (subst (λ (n : Draft). Reaches n report text) is.2 reach)
  step_at (places.Told entry address) (Proc further) next fits allowed ordered is reach =
      moved d (places.Told entry address) (places.Procedure further 0) report text (line_text (Proc further) ++ 10 ∷ text)
      (λ certs points left. before_proc d.tracked.names (are_wanted d) further certs points text left (Some entry)
      (other_opened (are_wanted d) entry further (λ e. omega arith)) (opening_of_next entry further ordered)
      (omega (arith, left.procedure), subst (λ (p : ℕ). FollowFrom p left.further) (sym left.procedure) left.left.follow))
      (subst (λ (n : Draft). Reaches n report text) is reach)
  step_at (places.Told entry address) (At further) next fits allowed ordered is reach =
      moved d (places.Told entry address) (places.Point entry further k) report text (line_text (At further) ++ 10 ∷ text)
      (λ certs points left. before_next_at d.tracked.names (are_wanted d) entry further certs points text left)
      (subst (λ (n : Draft). Reaches n report text) is reach)
  step_at (places.Told entry address) End next fits allowed ordered is reach =
      moved d (places.Told entry address) places.End report text (line_text End ++ 10 ∷ text)
      (λ certs points none. before_end d.tracked.names (are_wanted d) (Some entry) certs points text none)
      (subst (λ (n : Draft). Reaches n report text) is reach)
  step_at place line next fits allowed ordered is reach = absurd cc
