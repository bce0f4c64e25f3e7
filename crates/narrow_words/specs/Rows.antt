-- What each report of narrow relations keeps.
--
--   AreNarrowRows names p rows         rows are a reduced narrow basis of relations between what is seen in procedure p
--   AreNarrowRowsAtState names p state so are the rows of a state told in procedure p, where it has any
--   AreNarrowRowsAt names point        so are the rows of the point, where it has any
use Rattle.std.specs.Prelude.{◌≢◌, ℕ, ◌<◌, List, All, slice_index}
use Rattle.word_rows.specs.Rows.{lead}
use Rattle.row_modules.specs.Bases.{IsReduced}
use Rattle.report_text.specs.declared.names.Name.{Name}
use Rattle.report_text.specs.declared.points.PointRows.{PointRows}
use Rattle.report_text.specs.declared.points.PointState.{PointState}
use Rattle.report_text.specs.declared.points.PointState.TheVariants.{Unreached, Rows}
use Rattle.report_text.specs.Names.{IsSeenAt}
use Rattle.narrow_solver.specs.Narrow.{IsNarrowBasis}

pub record AreNarrowRows (names : List Name) (procedure : ℕ) (rows : List (List ℕ)) : Type 0 where
  pub basis : IsNarrowBasis 17 rows
  pub reduced : IsReduced rows
  pub named : All (λ row. lead row < 16) rows
  pub seen : All (λ row. (k : ℕ) → k < 16 → slice_index row k ≢ 0 → IsSeenAt names procedure k) rows

abbrev pub AreNarrowRowsAtState : List Name → ℕ → PointState → Type 0
AreNarrowRowsAtState names procedure Unreached = Unit {0}
AreNarrowRowsAtState names procedure (Rows rows) = AreNarrowRows names procedure rows

abbrev pub AreNarrowRowsAt : List Name → PointRows → Type 0
AreNarrowRowsAt names point = AreNarrowRowsAtState names point.proc_entry point.state
