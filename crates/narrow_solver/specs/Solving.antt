-- What is answered.
--
--   OnNarrowRows r F     where the answer r has rows, F is a fact about them
use Rattle.std.specs.Prelude.{ℕ, List}
use Rattle.report_text.specs.declared.points.PointState.{PointState}
use Rattle.report_text.specs.declared.points.PointState.TheVariants.{Unreached, Rows}

abbrev pub OnNarrowRows : PointState → (List (List ℕ) → Type 0) → Type 0
OnNarrowRows Unreached F = Unit {0}
OnNarrowRows (Rows rows) F = F rows
