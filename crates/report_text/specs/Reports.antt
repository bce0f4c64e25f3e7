-- What each report keeps.
--
--   IsBefore p q                 point p comes before point q: by procedure, and then by address
--   Ascend points                each point comes before those after it
--   AreRelationRows names p rows   rows are a reduced basis of relations between what is seen in procedure p
--   AreRowsAtState names p state   so are the rows of a state told in procedure p, where it has any
--   AreRowsAt names point        so are the rows of the point, where it has any
use Rattle.std.specs.Prelude.{◌≡◌, ◌≢◌, ℕ, ◌<◌, ◌⊎◌, List, All, AllPairs, slice_index}
use Rattle.word_rows.specs.Rows.{lead}
use Rattle.row_modules.specs.Bases.{IsLeadingBasis, IsReduced}
use Rattle.report_text.specs.declared.names.Name.{Name}
use Rattle.report_text.specs.declared.points.PointRows.{PointRows}
use Rattle.report_text.specs.declared.points.PointState.{PointState}
use Rattle.report_text.specs.declared.points.PointState.TheVariants.{Unreached, Rows}
use Rattle.report_text.specs.Names.{IsSeenAt}

abbrev pub IsBefore : PointRows → PointRows → Type 0
IsBefore p q = (p.proc_entry < q.proc_entry) ⊎ ((p.proc_entry ≡ q.proc_entry) × (p.address < q.address))

abbrev pub Ascend : List PointRows → Type 0
Ascend points = AllPairs IsBefore points

pub record AreRelationRows (names : List Name) (procedure : ℕ) (rows : List (List ℕ)) : Type 0 where
  pub basis : IsLeadingBasis 17 rows
  pub reduced : IsReduced rows
  pub named : All (λ row. lead row < 16) rows
  pub seen : All (λ row. (k : ℕ) → k < 16 → slice_index row k ≢ 0 → IsSeenAt names procedure k) rows

abbrev pub AreRowsAtState : List Name → ℕ → PointState → Type 0
AreRowsAtState names procedure Unreached = Unit {0}
AreRowsAtState names procedure (Rows rows) = AreRelationRows names procedure rows

abbrev pub AreRowsAt : List Name → PointRows → Type 0
AreRowsAt names point = AreRowsAtState names point.proc_entry point.state
