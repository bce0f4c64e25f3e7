-- How the lines behind the first two are judged, one after another.
--
--   AreRowsFine place       the rows of a point, if they stand last, are a reduced basis
--   before d line           what the line is judged by: rows that stand last are told before any line but a relation's
--   IsPassed d line         it is a relation's, or the rows that stand last are fine
--   AreRowsWrong place n    the rows that stand last aren't, and n is their point's line
--   IsNext k d line next    the line, of number k, is as it should be behind d, and makes it next
--   IsRelationPiece piece   the piece is a relation's line
--   IsRefusal k d piece refusal   what is wrong with the piece behind d: rows that stand last come first; then the line isn't
--                           one that is allowed there, has a name that isn't known, or isn't in order
--   IsLineJudged k d piece follows r   r is what is told of the piece, where follows tells what is told of the lines behind it
--   IsReportOf d report     the report is what d tells
--   IsEndJudged k d rest r  r is what is told where no whole line is left
--   IsJudged parts k d r    r is what is told of the lines from number k on, behind d
use Rattle.std.specs.Prelude.{◌≡◌, ◌≢◌, ℕ, ◌+◌, true, ◌⊎◌, List, [], ◌∷◌, Result, Ok, Err, if◌then◌else◌}
use Rattle.row_modules.specs.Bases.{IsLeadingBasis, IsReduced}
use Rattle.report_text.specs.declared.reports.Report.{Report}
use Rattle.report_lines.specs.Lines.{Line, Rel, IsLine, is_relation, line_text}
use Rattle.report_lines.specs.Relations.{IsRelation}
use Rattle.report_lines.specs.Terms.{Term}
use Rattle.report_read.specs.declared.draft.Draft.{Draft}
use Rattle.report_read.specs.declared.draft.Place.{Place}
use Rattle.report_read.specs.declared.draft.Place.TheVariants as places
use Rattle.refusals.specs.declared.report.ReportRefusal.{ReportRefusal}
use Rattle.refusals.specs.declared.report.ReportRefusal.TheVariants as refusals
use Rattle.report_read.specs.Drafts.{AreKnown, Becomes, IsOrdered, closed, is_allowed}

abbrev pub AreRowsFine : Place → Type 0
AreRowsFine (places.Rows entry address line rows) = IsLeadingBasis 17 rows × IsReduced rows
AreRowsFine place = Unit {0}

abbrev pub before : Draft → Line → Draft
before d line = if is_relation line then d else closed d

abbrev pub IsPassed : Draft → Line → Type 0
IsPassed d line = (is_relation line ≡ true) ⊎ AreRowsFine d.place

pub record IsNext (k : ℕ) (d : Draft) (line : Line) (next : Draft) : Type 0 where
  pub passed : IsPassed d line
  pub allowed : is_allowed (before d line) line ≡ true
  pub known : AreKnown (before d line) line
  pub ordered : IsOrdered (before d line) line
  pub becomes : Becomes k (before d line) line next

abbrev pub IsRelationPiece : List ℕ → Type 0
IsRelationPiece piece = (terms : List Term) × (c : ℕ) × IsRelation terms c × (piece ≡ line_text (Rel terms c))

abbrev pub AreRowsWrong : Place → ℕ → Type 0
AreRowsWrong (places.Rows entry address line rows) n = (n ≡ line) × (IsLeadingBasis 17 rows × IsReduced rows → ⊥)
AreRowsWrong place n = ⊥

pub data IsRefusal (k : ℕ) (d : Draft) (piece : List ℕ) (refusal : ReportRefusal) : Type 0 where
  rows : (n : ℕ) → (IsRelationPiece piece → ⊥) → AreRowsWrong d.place n → refusal ≡ refusals.NotReduced n
      → IsRefusal k d piece refusal
  not_allowed : IsRelationPiece piece ⊎ AreRowsFine d.place
      → ((line : Line) → IsLine line → piece ≡ line_text line → is_allowed (before d line) line ≢ true)
      → refusal ≡ refusals.Syntax k → IsRefusal k d piece refusal
  not_known : (line : Line) → IsLine line → piece ≡ line_text line → IsPassed d line → is_allowed (before d line) line ≡ true
      → (AreKnown (before d line) line → ⊥) → refusal ≡ refusals.UnknownName k → IsRefusal k d piece refusal
  not_ordered : (line : Line) → IsLine line → piece ≡ line_text line → IsPassed d line → is_allowed (before d line) line ≡ true
      → AreKnown (before d line) line → (IsOrdered (before d line) line → ⊥) → refusal ≡ refusals.Order k
      → IsRefusal k d piece refusal

pub data IsLineJudged (k : ℕ) (d : Draft) (piece : List ℕ) (follows : Draft → Type 0) (r : Result Report ReportRefusal) : Type 0 where
  goes_on : (line : Line) (next : Draft) → IsLine line → piece ≡ line_text line → IsNext k d line next → follows next
      → IsLineJudged k d piece follows r
  refused : (refusal : ReportRefusal) → IsRefusal k d piece refusal → r ≡ Err refusal → IsLineJudged k d piece follows r

pub record IsReportOf (d : Draft) (report : Report) : Type 0 where
  pub version_is : report.version ≡ d.version
  pub tracked_is : report.tracked ≡ d.tracked
  pub certs_are : report.certs ≡ d.certs
  pub points_are : report.points ≡ d.points

pub data IsEndJudged (k : ℕ) (d : Draft) (rest : List ℕ) (r : Result Report ReportRefusal) : Type 0 where
  rows : (n : ℕ) → AreRowsWrong d.place n → r ≡ Err (refusals.NotReduced n) → IsEndJudged k d rest r
  unfinished : AreRowsFine d.place → ((d.place ≡ places.End) × (rest ≡ []) → ⊥) → r ≡ Err (refusals.Syntax k)
      → IsEndJudged k d rest r
  whole : (report : Report) → d.place ≡ places.End → rest ≡ [] → IsReportOf d report → r ≡ Ok report → IsEndJudged k d rest r

abbrev pub IsJudged : List (List ℕ) → ℕ → Draft → Result Report ReportRefusal → Type 0
IsJudged [] k d r = ⊥
IsJudged (rest ∷ []) k d r = IsEndJudged k d rest r
IsJudged (piece ∷ next ∷ parts) k d r = IsLineJudged k d piece (λ d'. IsJudged (next ∷ parts) (k + 1) d' r) r
