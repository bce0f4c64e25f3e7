-- The text of a report of narrow relations: that of a report of version 1 with another first line, where a word stands for
-- its low 32 bits.
--
--   widened w                the word that sign-extends w below 2^32; 2^31 stays as it is, so that it has a `+`
--   widened_state state      a state that is told, with each word of its rows so
--   widened_point point      a point with its state so
--   narrow_magnitude w, narrow_sign w
--                            a word up to 2^31 is written as itself behind `+`, a greater one as 2^32 - w behind `-`
--   narrow_text_of report    the whole text
use Rattle.std.specs.Prelude.{ℕ, ◌+◌, ◌-◌, ◌^◌, nat_le, List, [], ◌++◌, map, None, codes, if◌then◌else◌}
use Rattle.word_rows.specs.Words.{word}
use Rattle.report_text.specs.declared.points.PointRows.{PointRows}
use Rattle.report_text.specs.declared.points.PointState.{PointState}
use Rattle.report_text.specs.declared.points.PointState.TheVariants.{Unreached, Rows}
use Rattle.report_text.specs.Text.{nl, names_text, points_text}
use Rattle.narrow_words.specs.declared.reports.NarrowReport.{NarrowReport}

abbrev pub widened : ℕ → ℕ
widened w = if nat_le w (2 ^ 31) then w else word (w + (2 ^ 64 - 2 ^ 32))

abbrev pub widened_state : PointState → PointState
widened_state Unreached = Unreached
widened_state (Rows rows) = Rows (map (map widened) rows)

abbrev pub widened_point : PointRows → PointRows
widened_point point = record { proc_entry = point.proc_entry; address = point.address; state = widened_state point.state }

abbrev pub narrow_magnitude : ℕ → ℕ
narrow_magnitude w = if nat_le w (2 ^ 31) then w else 2 ^ 32 - w

abbrev pub narrow_sign : ℕ → List ℕ
narrow_sign w = if nat_le w (2 ^ 31) then codes "+" else codes "-"

abbrev pub narrow_text_of : NarrowReport → List ℕ
narrow_text_of report =
    codes "affine-narrow 1" ++ nl ++ codes "track " ++ names_text report.tracked.names ++ nl
    ++ points_text report.tracked.names [] None (map widened_point report.points) ++ codes "end" ++ nl
