-- The summary of an analysis of a generated file, as text.
--
--   summary = "affine-gen 1" nl "n " dec nl "bytes " dec nl "points " dec nl "procs " dec nl "rows " dec nl "unreached " dec nl "end" nl
--
--   count_line name n            a name and a number
--   rows_told state              how many rows are told
--   is_unreached point           the point is told to be unreached
--   gen_text n bytes report certs  the summary of the file with n procedures, which has these bytes and this report
use Rattle.std.specs.Prelude.{ℕ, Bool, true, false, List, ◌++◌, length, sum_by, count_by, codes}
use Rattle.number_text.specs.Numerals.{dec}
use Rattle.report_text.specs.Text.{nl}
use Rattle.report_text.specs.Certificates.{procedures_of}
use Rattle.report_text.specs.declared.points.PointState.{PointState}
use Rattle.report_text.specs.declared.points.PointState.TheVariants.{Unreached, Rows}
use Rattle.report_text.specs.declared.reports.Report.{Report}
use Rattle.analyser_core.specs.declared.cert_line.CertLine.{CertLine}

abbrev pub count_line : List ℕ → ℕ → List ℕ
count_line name n = name ++ codes " " ++ dec n ++ nl

abbrev pub rows_told : PointState → ℕ
rows_told Unreached = 0
rows_told (Rows rows) = length rows

abbrev pub is_unreached : PointState → Bool
is_unreached Unreached = true
is_unreached (Rows rows) = false

abbrev pub gen_text : ℕ → List ℕ → Report → List CertLine → List ℕ
gen_text n bytes report certs =
    codes "affine-gen 1" ++ nl ++ count_line (codes "n") n ++ count_line (codes "bytes") (length bytes)
    ++ count_line (codes "points") (length report.points) ++ count_line (codes "procs") (length (procedures_of report.points))
    ++ count_line (codes "rows") (sum_by (λ point. rows_told point.state) report.points)
    ++ count_line (codes "unreached") (count_by (λ point. is_unreached point.state) report.points) ++ codes "end" ++ nl
