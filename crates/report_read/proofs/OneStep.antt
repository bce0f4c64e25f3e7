-- One thing is told of a line, and of the end.
use Rattle.std.proofs.Common.{◌≡◌, ℕ, true, List, Ok, Err, sym, subst, ap, ◌∙◌, inl, inr}
use Rattle.std.specs.Prelude.{◌⊎◌}
use Rattle.report_text.specs.declared.reports.Report.{Report}
use Rattle.report_lines.specs.Lines.{Line, Proc, Cert, At, NoRows, Unreached, Rel, End, IsLine, is_relation, line_text}
use Rattle.report_lines.proofs.OneLine.{one_line}
use Rattle.report_read.specs.declared.draft.Draft.{Draft}
use Rattle.report_read.specs.declared.draft.Place.{Place}
use Rattle.report_read.specs.declared.draft.Place.TheVariants as places
use Rattle.refusals.specs.declared.report.ReportRefusal.{ReportRefusal}
use Rattle.refusals.specs.declared.report.ReportRefusal.TheVariants as refusals
use Rattle.report_read.specs.Drafts.{AreKnown, IsOrdered}
use Rattle.report_read.specs.Judging.{AreRowsFine, AreRowsWrong, IsEndJudged, IsNext, IsPassed, IsRefusal, IsRelationPiece, IsReportOf, before, rows, not_allowed, not_known, not_ordered, unfinished, whole}
use Rattle.report_read.specs.Telling.{Outcome}
use Rattle.report_read.proofs.Sets.{same_report}

pub not_both : (place : Place) (n : ℕ) → AreRowsFine place → AreRowsWrong place n → ⊥
not_both (places.Rows entry address line rs) n fine wrong = wrong.1 fine
not_both places.Top n fine wrong = wrong
not_both (places.Procedure entry count) n fine wrong = wrong
not_both (places.Point entry address line) n fine wrong = wrong
not_both (places.Told entry address) n fine wrong = wrong
not_both places.End n fine wrong = wrong

pub one_line_wrong : (place : Place) (m n : ℕ) → AreRowsWrong place m → AreRowsWrong place n → m ≡ n
one_line_wrong (places.Rows entry address line rs) m n p q = p.0 ∙ sym q.0
one_line_wrong places.Top m n p q = absurd p
one_line_wrong (places.Procedure entry count) m n p q = absurd p
one_line_wrong (places.Point entry address line) m n p q = absurd p
one_line_wrong (places.Told entry address) m n p q = absurd p
one_line_wrong places.End m n p q = absurd p

pub relation_piece : (line : Line) (piece : List ℕ) → IsLine line → piece ≡ line_text line → is_relation line ≡ true
    → IsRelationPiece piece
relation_piece (Rel terms c) piece fits is e = (terms, c, fits, is)
relation_piece (Proc entry) piece fits is e = absurd cc
relation_piece (Cert name word) piece fits is e = absurd cc
relation_piece (At address) piece fits is e = absurd cc
relation_piece NoRows piece fits is e = absurd cc
relation_piece Unreached piece fits is e = absurd cc
relation_piece End piece fits is e = absurd cc

module _ (k : ℕ) (d : Draft) (piece : List ℕ) where
  -- a line that is passed stands behind no rows that are wrong
  pub passed_by : (line : Line) (n : ℕ) → IsLine line → piece ≡ line_text line → IsPassed d line → (IsRelationPiece piece → ⊥)
      → AreRowsWrong d.place n → ⊥
  passed_by line n fits is (inl e) other wrong = other (relation_piece line piece fits is e)
  passed_by line n fits is (inr fine) other wrong = not_both d.place n fine wrong

  pub one_of : (a b : Line) → IsLine a → IsLine b → piece ≡ line_text a → piece ≡ line_text b → a ≡ b
  one_of a b p q e f = one_line a b p q (sym e ∙ f)

  -- a line that is right isn't refused
  pub not_refused : (line : Line) (next : Draft) (refusal : ReportRefusal) → IsLine line → piece ≡ line_text line
      → IsNext k d line next → IsRefusal k d piece refusal → ⊥
  not_refused line next refusal fits is n (rows m other wrong e) = passed_by line m fits is n.passed other wrong
  not_refused line next refusal fits is n (not_allowed passed none e) = none line fits is n.allowed
  not_refused line next refusal fits is n (not_known other fits' is' passed allowed unknown e) =
      unknown (subst (λ (l : Line). AreKnown (before d l) l) (one_of line other fits fits' is is') n.known)
  not_refused line next refusal fits is n (not_ordered other fits' is' passed allowed known disorder e) =
      disorder (subst (λ (l : Line). IsOrdered (before d l) l) (one_of line other fits fits' is is') n.ordered)

  pub rows_not_allowed : (n : ℕ) → (IsRelationPiece piece → ⊥) → AreRowsWrong d.place n
      → IsRelationPiece piece ⊎ AreRowsFine d.place → ⊥
  rows_not_allowed n other wrong (inl r) = other r
  rows_not_allowed n other wrong (inr fine) = not_both d.place n fine wrong

  pub one_refusal : (r q : ReportRefusal) → IsRefusal k d piece r → IsRefusal k d piece q → r ≡ q
  one_refusal r q (rows m other wrong e) (rows n other' wrong' f) = e ∙ ap refusals.NotReduced (one_line_wrong d.place m n wrong wrong') ∙ sym f
  one_refusal r q (rows m other wrong e) (not_allowed passed none f) = absurd (rows_not_allowed m other wrong passed)
  one_refusal r q (rows m other wrong e) (not_known line fits is passed allowed unknown f) = absurd (passed_by line m fits is passed other wrong)
  one_refusal r q (rows m other wrong e) (not_ordered line fits is passed allowed known disorder f) = absurd (passed_by line m fits is passed other wrong)
  one_refusal r q (not_allowed passed none e) (rows m other wrong f) = absurd (rows_not_allowed m other wrong passed)
  one_refusal r q (not_allowed passed none e) (not_allowed passed' none' f) = e ∙ sym f
  one_refusal r q (not_allowed passed none e) (not_known line fits is passed' allowed unknown f) = absurd (none line fits is allowed)
  one_refusal r q (not_allowed passed none e) (not_ordered line fits is passed' allowed known disorder f) = absurd (none line fits is allowed)
  one_refusal r q (not_known line fits is passed allowed unknown e) (rows m other wrong f) = absurd (passed_by line m fits is passed other wrong)
  one_refusal r q (not_known line fits is passed allowed unknown e) (not_allowed passed' none f) = absurd (none line fits is allowed)
  one_refusal r q (not_known line fits is passed allowed unknown e) (not_known line' fits' is' passed' allowed' unknown' f) = e ∙ sym f
  one_refusal r q (not_known line fits is passed allowed unknown e) (not_ordered line' fits' is' passed' allowed' known disorder f) =
      absurd (unknown (subst (λ (l : Line). AreKnown (before d l) l) (one_of line' line fits' fits is' is) known))
  one_refusal r q (not_ordered line fits is passed allowed known disorder e) (rows m other wrong f) = absurd (passed_by line m fits is passed other wrong)
  one_refusal r q (not_ordered line fits is passed allowed known disorder e) (not_allowed passed' none f) = absurd (none line fits is allowed)
  one_refusal r q (not_ordered line fits is passed allowed known disorder e) (not_known line' fits' is' passed' allowed' unknown f) =
      absurd (unknown (subst (λ (l : Line). AreKnown (before d l) l) (one_of line line' fits fits' is is') known))
  one_refusal r q (not_ordered line fits is passed allowed known disorder e) (not_ordered line' fits' is' passed' allowed' known' disorder' f) = e ∙ sym f

abbrev pub wrong_at : (ℕ → ReportRefusal) → ℕ → Outcome
wrong_at refusal n = Err (refusal n)

pub one_report : (d : Draft) (a b : Report) → IsReportOf d a → IsReportOf d b → a ≡ b
one_report d a b p q = same_report a b (p.version_is ∙ sym q.version_is) (p.tracked_is ∙ sym q.tracked_is) (p.certs_are ∙ sym q.certs_are) (p.points_are ∙ sym q.points_are)

abbrev pub okay : Report → Outcome
okay report = Ok report

pub ended_right : (d : Draft) (n : ℕ) → d.place ≡ places.End → AreRowsWrong d.place n → ⊥
ended_right d n ended wrong = subst (λ (p : Place). AreRowsWrong p n) ended wrong

pub one_end : (k : ℕ) (d : Draft) (rest : List ℕ) (r q : Outcome) → IsEndJudged k d rest r → IsEndJudged k d rest q → r ≡ q
one_end k d rest r q (rows m wrong e) (rows n wrong' f) = e ∙ ap (wrong_at refusals.NotReduced) (one_line_wrong d.place m n wrong wrong') ∙ sym f
one_end k d rest r q (rows m wrong e) (unfinished fine open' f) = absurd (not_both d.place m fine wrong)
one_end k d rest r q (rows m wrong e) (whole report ended empty is f) = absurd (ended_right d m ended wrong)
one_end k d rest r q (unfinished fine open' e) (rows m wrong f) = absurd (not_both d.place m fine wrong)
one_end k d rest r q (unfinished fine open' e) (unfinished fine' open2 f) = e ∙ sym f
one_end k d rest r q (unfinished fine open' e) (whole report ended empty is f) = absurd (open' (ended, empty))
one_end k d rest r q (whole report ended empty is e) (rows m wrong f) = absurd (ended_right d m ended wrong)
one_end k d rest r q (whole report ended empty is e) (unfinished fine open' f) = absurd (open' (ended, empty))
one_end k d rest r q (whole report ended empty is e) (whole report' ended' empty' is' f) = e ∙ ap okay (one_report d report report' is is') ∙ sym f
