-- What is told of texts is told over their lines.
use Rattle.std.proofs.Common.{ℕ, List, [], Err, refl}
use Rattle.report_lines.specs.Parts.{parts_of}
use Rattle.refusals.specs.declared.report.ReportRefusal.{ReportRefusal}
use Rattle.refusals.specs.declared.report.ReportRefusal.TheVariants as refusals
use Rattle.report_read.specs.Telling.{IsTextJudged, IsTrackJudged, begun}
use Rattle.report_read.specs.Telling as told
use Rattle.wrong_lines.specs.Texts.{IsWrongText, IsWrongTrack, RefusalsAreOverLines}
use Rattle.wrong_lines.specs.Texts as over
use Rattle.wrong_lines.proofs.Behind.{same_refusal, wrong_behind}

wrong_track : (version : ℕ) (text : List ℕ) (refusal : ReportRefusal) → IsTrackJudged version text (Err refusal) → IsWrongTrack version text refusal
wrong_track version text refusal (told.missing none e) = over.missing none (same_refusal refusal (refusals.Syntax 2) e)
wrong_track version text refusal (told.no_names piece behind is none e) =
    over.no_names piece behind is none (same_refusal refusal (refusals.Syntax 2) e)
wrong_track version text refusal (told.unknown piece behind texts is listed at' away e) =
    over.unknown piece behind texts is listed at' away (same_refusal refusal (refusals.UnknownName 2) e)
wrong_track version text refusal (told.repeated piece behind texts is listed at' named away e) =
    over.repeated piece behind texts is listed at' named away (same_refusal refusal (refusals.Order 2) e)
wrong_track version text refusal (told.lines piece behind texts tracked is listed at' read j) =
    over.lines piece behind texts tracked.names is listed at' read
    (wrong_behind version tracked.names behind refusal (parts_of 10 behind) [] (begun version tracked)
    (record { version_is = refl; names_are = refl; rows = []; are = refl; place_is = refl }) tt refl j)

pub over_lines : RefusalsAreOverLines
over_lines bytes refusal (told.missing none e) = over.missing none (same_refusal refusal (refusals.Syntax 1) e)
over_lines bytes refusal (told.no_header piece behind is none e) =
    over.no_header piece behind is none (same_refusal refusal (refusals.Syntax 1) e)
over_lines bytes refusal (told.header piece behind version is some most at' t) =
    over.header piece behind version is some most at' (wrong_track version behind refusal t)
