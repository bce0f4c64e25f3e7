-- What is told of lines is told over them alone.
use Rattle.std.proofs.Common.{◌≡◌, ℕ, ◌+◌, true, List, [], ◌∷◌, ◌++◌, append_assoc, Err, refl, sym, subst, ap, ◌∙◌, inl, inr, arith}
use Rattle.std.specs.Prelude.{◌⊎◌}
use Rattle.report_text.specs.declared.names.Name.{Name}
use Rattle.report_text.specs.declared.names.Tracked.{Tracked}
use Rattle.report_lines.specs.Lines.{Line, End, IsLine, line_text}
use Rattle.report_lines.specs.Parts.{parts_of}
use Rattle.report_read.specs.declared.draft.Draft.{Draft}
use Rattle.report_read.specs.declared.draft.Place.{Place}
use Rattle.report_read.specs.declared.draft.Place.TheVariants as places
use Rattle.refusals.specs.declared.report.ReportRefusal.{ReportRefusal}
use Rattle.refusals.specs.declared.report.ReportRefusal.TheVariants as refusals
use Rattle.report_read.specs.Drafts.{BecomesAt, IsOrderedAt, is_allowed, is_allowed_at}
use Rattle.report_read.specs.Drafts.{AreKnown as AreKnownBy}
use Rattle.report_read.specs.Judging.{AreRowsFine, AreRowsWrong, IsEndJudged, IsJudged, IsLineJudged, IsNext, IsPassed, IsRefusal, before}
use Rattle.report_read.specs.Judging as judged
use Rattle.report_read.proofs.Headers.{next_header}
use Rattle.report_read.proofs.OneTelling.{wrong}
use Rattle.wrong_lines.specs.Lines.{AreNamesKnown, AreReduced, AreRight, AreRows, IsClosedBefore, IsEnded, IsInOrder, IsRight, IsWrongEnd, IsWrongLine, IsWritten, may_follow, line_number, line_texts}
use Rattle.wrong_lines.specs.Lines as over
use Rattle.wrong_lines.specs.Texts.{IsWrongBehind, a_line, the_end}
use Rattle.wrong_lines.proofs.Places.{Stands, allowed_there, before_names, before_place, before_version, judged_at, place_behind}
use Rattle.wrong_lines.proofs.Orders.{in_order, known_over, known_there, ordered_there, reduced_over, wrong_over}
use Rattle.wrong_lines.proofs.Steps.{Goes, goes}

ended_place : (past : List Line) (rows : List (List ℕ)) → IsEnded past → place_behind past rows ≡ places.End
ended_place (End ∷ past) rows h = refl
ended_place past rows h = absurd h

pub same_refusal : (r q : ReportRefusal) → wrong r ≡ wrong q → r ≡ q
same_refusal r q e = cc

module _ (version : ℕ) (names : List Name) (past : List Line) (d : Draft) (s : Stands version names past d) where
  -- a draft of the same version and names at the place by which the line is judged
  module _ (line : Line) where
    version_there : (before d line).version ≡ version
    version_there = before_version d line ∙ s.version_is

    names_there : (before d line).tracked.names ≡ names
    names_there = before_names d line ∙ s.names_are

    place_there : (before d line).place ≡ judged_at past s.rows line
    place_there = before_place d past s.rows line s.place_is

    pub allowed_is : is_allowed (before d line) line ≡ may_follow version past line
    allowed_is =
        ap (λ (p : Place). is_allowed_at (before d line).version p line) place_there
        ∙ allowed_there (before d line).version past s.rows line ∙ ap (λ (v : ℕ). may_follow v past line) version_there

    may_there : may_follow version past line ≡ true → may_follow (before d line).version past line ≡ true
    may_there may = ap (λ (v : ℕ). may_follow v past line) version_there ∙ may

    pub known : may_follow version past line ≡ true → AreKnownBy (before d line) line → AreNamesKnown names past line
    known may h =
        subst (λ (ns : List Name). AreNamesKnown ns past line) names_there (known_over (before d line) past s.rows line place_there (may_there may) h)

    pub known_by : may_follow version past line ≡ true → AreNamesKnown names past line → AreKnownBy (before d line) line
    known_by may h =
        known_there (before d line) past s.rows line place_there (may_there may) (subst (λ (ns : List Name). AreNamesKnown ns past line) (sym names_there) h)

    pub ordered : may_follow version past line ≡ true → IsOrderedAt (before d line) (before d line).place line
        → IsInOrder version names past line
    ordered may h =
        subst (λ (v : ℕ). IsInOrder v names past line) version_there (subst (λ (ns : List Name). IsInOrder (before d line).version ns past line) names_there
        (in_order (before d line) past s.rows line (may_there may) (subst (λ (p : Place). IsOrderedAt (before d line) p line) place_there h)))

    pub ordered_by : may_follow version past line ≡ true → IsInOrder version names past line
        → IsOrderedAt (before d line) (before d line).place line
    ordered_by may h =
        subst (λ (p : Place). IsOrderedAt (before d line) p line) (sym place_there) (ordered_there (before d line) past s.rows line (may_there may)
        (subst (λ (ns : List Name). IsInOrder (before d line).version ns past line) (sym names_there) (subst (λ (v : ℕ). IsInOrder v names past line) (sym version_there) h)))

    pub gone : (next : Draft) → may_follow version past line ≡ true → BecomesAt (line_number past) (before d line) (before d line).place line next
        → Goes names past line next.place
    gone next may h =
        subst (λ (ns : List Name). Goes ns past line next.place) names_there (goes (before d line) past s.rows line next
        (subst (λ (ns : List Name). AreRows ns past s.rows) (sym names_there) s.are) (may_there may)
        (subst (λ (p : Place). BecomesAt (line_number past) (before d line) p line next) place_there h))

  reduced : AreRowsFine d.place → AreReduced names past
  reduced fine = reduced_over names past s.rows s.are (subst AreRowsFine s.place_is fine)

  not_reduced : (n : ℕ) → AreRowsWrong d.place n → (n ≡ over.point_number past) × over.AreNotReduced names past
  not_reduced n wrong = wrong_over names past s.rows n s.are (subst (λ (p : Place). AreRowsWrong p n) s.place_is wrong)

  closed_by : (line : Line) → IsPassed d line → IsClosedBefore names past line
  closed_by line (inl e) = inl e
  closed_by line (inr fine) = inr (reduced fine)

  pub right : (line : Line) (next : Draft) → IsLine line → IsNext (line_number past) d line next → IsRight version names past line
  right line next fits n =
      let may : may_follow version past line ≡ true = sym (allowed_is line) ∙ n.allowed in record {
        can = fits;
        closed = closed_by line n.passed;
        allowed = may;
        known = known line may n.known;
        ordered = ordered line may n.ordered;
      }

  pub stands_next : (line : Line) (next : Draft) → IsNext (line_number past) d line next → Stands version names (line ∷ past) next
  stands_next line next n =
      let may : may_follow version past line ≡ true = sym (allowed_is line) ∙ n.allowed in
      let g = gone line next may n.becomes in
      let h = next_header (line_number past) d line next n in record {
        version_is = h.0 ∙ s.version_is;
        names_are = ap (λ (t : Tracked). t.names) h.1 ∙ s.names_are;
        rows = g.rows;
        are = g.are;
        place_is = g.place_is;
      }

  pub wrong_line : (piece : List ℕ) (refusal : ReportRefusal) → IsRefusal (line_number past) d piece refusal
      → IsWrongLine version names past piece refusal
  wrong_line piece refusal (judged.rows n other wrong e) =
      let w = not_reduced n wrong in over.not_reduced other w.1 (subst (λ (m : ℕ). refusal ≡ refusals.NotReduced m) w.0 e)
  wrong_line piece refusal (judged.not_allowed passed none e) =
      over.not_allowed (by passed) (λ line w may. none line w.0 w.1 (allowed_is line ∙ may)) e
    where
      by : judged.IsRelationPiece piece ⊎ AreRowsFine d.place → judged.IsRelationPiece piece ⊎ AreReduced names past
      by (inl r) = inl r
      by (inr fine) = inr (reduced fine)
  wrong_line piece refusal (judged.not_known line fits is passed allowed unknown e) =
      let may : may_follow version past line ≡ true = sym (allowed_is line) ∙ allowed in
      over.not_known line (fits, is) (closed_by line passed) may (λ k. unknown (known_by line may k)) e
  wrong_line piece refusal (judged.not_ordered line fits is passed allowed knows disorder e) =
      let may : may_follow version past line ≡ true = sym (allowed_is line) ∙ allowed in
      over.not_ordered line (fits, is) (closed_by line passed) may (known line may knows) (λ o. disorder (ordered_by line may o)) e

  pub wrong_end : (k : ℕ) (rest : List ℕ) (refusal : ReportRefusal) → k ≡ line_number past → IsEndJudged k d rest (Err refusal)
      → IsWrongEnd names past rest refusal
  wrong_end k rest refusal at' (judged.rows n wrong e) =
      let w = not_reduced n wrong in
      over.not_reduced w.1 (same_refusal refusal (refusals.NotReduced n) e ∙ ap refusals.NotReduced w.0)
  wrong_end k rest refusal at' (judged.unfinished fine open' e) =
      over.unfinished (reduced fine) (λ h. open' (s.place_is ∙ ended_place past s.rows h.0, h.1))
      (same_refusal refusal (refusals.Syntax k) e ∙ ap refusals.Syntax at')
  wrong_end k rest refusal at' (judged.whole report ended empty is e) = absurd cc

further : (line : Line) (past : List Line) (parts texts : List (List ℕ)) (piece next : List ℕ) → piece ≡ line_text line
    → texts ≡ line_texts past ++ piece ∷ next ∷ parts → texts ≡ line_texts (line ∷ past) ++ next ∷ parts
further line past parts texts piece next is e =
    e ∙ ap (λ (p : List ℕ). line_texts past ++ p ∷ next ∷ parts) is ∙ sym (append_assoc (line_texts past) (line_text line ∷ []) (next ∷ parts))

one_more : (line : Line) (past : List Line) → line_number past + 1 ≡ line_number (line ∷ past)
one_more line past = omega arith

-- behind lines that are right
module _ (version : ℕ) (names : List Name) (text : List ℕ) (refusal : ReportRefusal) where
  pub wrong_behind : (parts : List (List ℕ)) (past : List Line) (d : Draft) → Stands version names past d → AreRight version names past
      → parts_of 10 text ≡ line_texts past ++ parts → IsJudged parts (line_number past) d (Err refusal) → IsWrongBehind version names text refusal
  wrong_behind [] past d s fine is j = absurd j
  wrong_behind (rest ∷ []) past d s fine is j = the_end past rest fine is (wrong_end version names past d s (line_number past) rest refusal refl j)
  wrong_behind (piece ∷ next ∷ parts) past d s fine is (judged.goes_on line m fits e n f) =
      wrong_behind (next ∷ parts) (line ∷ past) m (stands_next version names past d s line m n) (fine, right version names past d s line m fits n)
      (further line past parts (parts_of 10 text) piece next e is) (subst (λ (k : ℕ). IsJudged (next ∷ parts) k m (Err refusal)) (one_more line past) f)
  wrong_behind (piece ∷ next ∷ parts) past d s fine is (judged.refused other w e) =
      a_line past piece next parts fine is (subst (IsWrongLine version names past piece) (sym (same_refusal refusal other e))
      (wrong_line version names past d s piece other w))
