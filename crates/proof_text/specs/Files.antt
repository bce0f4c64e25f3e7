-- What a proof file keeps.
--
--   IsRowLine n row          the row has a word that isn't 0, and it is a row of n words by its words that aren't 0
--   AreRowsOfHead head       so are the rows of a head, of 289 words
--   AreRowsOfEntry entry     and those of a procedure, of 17
--   IsClaim names p row      the row leads with a name, and has words that aren't 0 only where procedure p sees a name, and in the last place
--   AreClaimsIn names p state    so are the rows of a state told in procedure p, where it has any
--   AreClaimsAt names point  so are the rows of a point
use Rattle.std.specs.Prelude.{◌≢◌, ℕ, ◌<◌, ◌≤◌, List, All, length, slice_index}
use Rattle.word_rows.specs.Rows.{lead}
use Rattle.report_text.specs.declared.names.Name.{Name}
use Rattle.report_text.specs.declared.points.PointRows.{PointRows}
use Rattle.report_text.specs.declared.points.PointState.{PointState}
use Rattle.report_text.specs.declared.points.PointState.TheVariants.{Unreached, Rows}
use Rattle.report_text.specs.Names.{IsSeenAt}
use Rattle.proof_text.specs.declared.rows.SparseRow.{SparseRow}
use Rattle.proof_text.specs.declared.files.HeadRows.{HeadRows}
use Rattle.proof_text.specs.declared.files.EntryRows.{EntryRows}
use Rattle.proof_text.specs.Sparse.{IsSparse}

pub record IsRowLine (n : ℕ) (row : SparseRow) : Type 0 where
  pub some : 1 ≤ length row.words
  pub is_sparse : IsSparse n row.words

abbrev pub AreRowsOfHead : HeadRows → Type 0
AreRowsOfHead head = All (IsRowLine 289) head.rows

abbrev pub AreRowsOfEntry : EntryRows → Type 0
AreRowsOfEntry entry = All (IsRowLine 17) entry.rows

pub record IsClaim (names : List Name) (procedure : ℕ) (row : List ℕ) : Type 0 where
  pub named : lead row < 16
  pub seen : (k : ℕ) → k < 16 → slice_index row k ≢ 0 → IsSeenAt names procedure k

abbrev pub AreClaimsIn : List Name → ℕ → PointState → Type 0
AreClaimsIn names procedure Unreached = Unit {0}
AreClaimsIn names procedure (Rows rows) = All (IsClaim names procedure) rows

abbrev pub AreClaimsAt : List Name → PointRows → Type 0
AreClaimsAt names point = AreClaimsIn names point.proc_entry point.state
