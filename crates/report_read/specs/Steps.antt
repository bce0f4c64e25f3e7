-- What the functions that judge a line give.
--
--   IsStep k d piece r         r is what is told of the piece: what the report becomes, or what is wrong
--   IsLineStep k d line r      the same of a line, by d alone
--   IsOtherStep k d piece r    the same of a piece that is no relation, by d alone
--   IsNextCert d name entry count cert   the certificate is the next one of the procedure, and the name is its register's
--   IsPlace next r             r is next; want of memory is free
--   IsDraft next r             r is next; want of memory is free
--   IsRelationIn names entry piece r   r is what the piece tells as a relation in a procedure, or None where it is none
--   IsRelationAt d piece r     r is what the piece tells as a relation, or None where none is allowed or it is none
--   IsClosed d r               r is d with the rows that stand last told, or they aren't reduced
use Rattle.std.specs.Prelude.{◌≡◌, ◌≢◌, ℕ, true, false, List, Option, Some, None, Result, Ok, Err, slice_get}
use Rattle.rv_decode.specs.Registers.{name_of_register}
use Rattle.report_text.specs.declared.certs.ReportCert.{ReportCert}
use Rattle.report_text.specs.declared.names.Name.{Name}
use Rattle.report_text.specs.Certificates.{certified_names}
use Rattle.report_lines.specs.declared.relation.Relation.{Relation}
use Rattle.report_lines.specs.Lines.{Line, Rel, IsLine, is_relation, line_text}
use Rattle.report_lines.specs.Relations.{IsRelation, Tells}
use Rattle.report_lines.specs.Terms.{Term}
use Rattle.report_read.specs.declared.draft.Draft.{Draft}
use Rattle.report_read.specs.declared.draft.Place.{Place}
use Rattle.report_read.specs.declared.draft.Place.TheVariants as places
use Rattle.refusals.specs.declared.report.ReportRefusal.{ReportRefusal}
use Rattle.refusals.specs.declared.report.ReportRefusal.TheVariants as refusals
use Rattle.report_read.specs.Drafts.{AreKnown, Becomes, IsOrdered, IsRegisterOf, closed, entry_at, is_allowed}
use Rattle.report_read.specs.Judging.{AreRowsFine, AreRowsWrong, IsNext, IsRefusal}

abbrev pub IsStep : ℕ → Draft → List ℕ → Result Draft ReportRefusal → Type 0
IsStep k d piece (Ok next) = (line : Line) × IsLine line × (piece ≡ line_text line) × IsNext k d line next
IsStep k d piece (Err refusals.Memory) = Unit {0}
IsStep k d piece (Err refusal) = IsRefusal k d piece refusal

abbrev pub IsLineStep : ℕ → Draft → Line → Result Draft ReportRefusal → Type 0
IsLineStep k d line (Ok next) = (is_allowed d line ≡ true) × AreKnown d line × IsOrdered d line × Becomes k d line next
IsLineStep k d line (Err refusals.Memory) = Unit {0}
IsLineStep k d line (Err (refusals.Syntax n)) = (n ≡ k) × (is_allowed d line ≢ true)
IsLineStep k d line (Err (refusals.UnknownName n)) = (n ≡ k) × (is_allowed d line ≡ true) × (AreKnown d line → ⊥)
IsLineStep k d line (Err (refusals.Order n)) = (n ≡ k) × (is_allowed d line ≡ true) × AreKnown d line × (IsOrdered d line → ⊥)
IsLineStep k d line (Err (refusals.NotReduced n)) = ⊥

-- a draft, unless memory is wanting
abbrev pub IsDraft : Draft → Result Draft ReportRefusal → Type 0
IsDraft next (Ok d) = d ≡ next
IsDraft next (Err refusals.Memory) = Unit {0}
IsDraft next (Err (refusals.Syntax n)) = ⊥
IsDraft next (Err (refusals.UnknownName n)) = ⊥
IsDraft next (Err (refusals.Order n)) = ⊥
IsDraft next (Err (refusals.NotReduced n)) = ⊥

pub record IsNextCert (d : Draft) (name : List ℕ) (entry count : ℕ) (cert : ReportCert) : Type 0 where
  pub place_is : d.place ≡ places.Procedure entry count
  pub version_is : d.version ≡ 2
  pub known : IsRegisterOf d.tracked.names name
  pub register_is : slice_get (certified_names d.tracked.names) count ≡ Some cert.register
  pub name_is : name ≡ name_of_register cert.register
  pub procedure_is : cert.proc_entry ≡ entry

abbrev pub IsPlace : Place → Result Place ReportRefusal → Type 0
IsPlace next (Ok place) = place ≡ next
IsPlace next (Err refusals.Memory) = Unit {0}
IsPlace next (Err (refusals.Syntax n)) = ⊥
IsPlace next (Err (refusals.UnknownName n)) = ⊥
IsPlace next (Err (refusals.Order n)) = ⊥
IsPlace next (Err (refusals.NotReduced n)) = ⊥

pub data IsOtherStep (k : ℕ) (d : Draft) (piece : List ℕ) (r : Result Draft ReportRefusal) : Type 0 where
  a_line : (line : Line) → IsLine line → piece ≡ line_text line → is_relation line ≡ false → IsLineStep k d line r
      → IsOtherStep k d piece r
  no_line : ((line : Line) → IsLine line → is_relation line ≡ false → piece ≢ line_text line) → r ≡ Err (refusals.Syntax k)
      → IsOtherStep k d piece r

abbrev pub IsRelationIn : List Name → ℕ → List ℕ → Option Relation → Type 0
IsRelationIn names entry piece None = (terms : List Term) (c : ℕ) → IsRelation terms c → piece ≢ line_text (Rel terms c)
IsRelationIn names entry piece (Some relation) =
    (terms : List Term) × (c : ℕ) × IsRelation terms c × (piece ≡ line_text (Rel terms c)) × Tells names entry terms c relation

abbrev pub IsRelationAt : Draft → List ℕ → Option Relation → Type 0
IsRelationAt d piece None = (terms : List Term) (c : ℕ) → IsRelation terms c → piece ≡ line_text (Rel terms c) → is_allowed d (Rel terms c) ≢ true
IsRelationAt d piece (Some relation) =
    (terms : List Term) × (c : ℕ) × IsRelation terms c × (piece ≡ line_text (Rel terms c)) × (is_allowed d (Rel terms c) ≡ true)
    × Tells d.tracked.names (entry_at d.place) terms c relation

abbrev pub IsClosed : Draft → Result Draft ReportRefusal → Type 0
IsClosed d (Ok next) = AreRowsFine d.place × (next ≡ closed d)
IsClosed d (Err refusals.Memory) = Unit {0}
IsClosed d (Err (refusals.NotReduced n)) = AreRowsWrong d.place n
IsClosed d (Err (refusals.Syntax n)) = ⊥
IsClosed d (Err (refusals.UnknownName n)) = ⊥
IsClosed d (Err (refusals.Order n)) = ⊥
