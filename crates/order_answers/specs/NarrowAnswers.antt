-- What `narrow` answers.
--
--   AnswersNarrow list bytes status text   what `narrow` answers over a file with these bytes: what it is refused for, where slots
--                                          have four bytes; or the text of its report of narrow relations
use Rattle.std.specs.Prelude.{◌≡◌, ◌≢◌, ℕ, ◌≤◌, List, length}
use Rattle.elf_image.specs.declared.image.Image.{Image}
use Rattle.flow_points.specs.PointLists.{FlowPoints}
use Rattle.affine_lift.specs.declared.width.Width.TheVariants as widths
use Rattle.affine_lift.specs.Tracking.{IsTrackRefusal, scope_by}
use Rattle.refusals.specs.declared.track.TrackRefusal as tracks
use Rattle.refusals.specs.declared.track.TrackRefusal.{TrackRefusal}
use Rattle.analyser_core.specs.Heads.{most_heads}
use Rattle.analyser_core.specs.Accepted.{most_bytes, IsImageOf, HasPoints}
use Rattle.narrow_words.specs.Accepted.{IsNarrowCrowded}
use Rattle.narrow_words.specs.Reports.{IsNarrowReportOver}
use Rattle.narrow_words.specs.Text.{narrow_text_of}
use Rattle.narrow_words.specs.declared.reports.NarrowReport.{NarrowReport}
use Rattle.refusal_lines.specs.Lines.{track_line, heads_line}
use Rattle.order_answers.specs.FileRefusals.{IsRefused}

pub data AnswersNarrow (list bytes : List ℕ) : ℕ → List ℕ → Type 0 where
  refused : (status : ℕ) (text : List ℕ) → IsRefused bytes status text → AnswersNarrow list bytes status text
  no_list : (status : ℕ) (text : List ℕ) (image : Image) (points : FlowPoints) (refusal : TrackRefusal) → length bytes ≤ most_bytes →
      IsImageOf bytes image → HasPoints image points → IsTrackRefusal (scope_by widths.Narrow image.symbols points.procedures) list refusal →
      refusal ≢ tracks.TheVariants.Memory → status ≡ 1 → text ≡ track_line refusal → AnswersNarrow list bytes status text
  crowded : (status : ℕ) (text : List ℕ) → length bytes ≤ most_bytes → IsNarrowCrowded bytes list → status ≡ 1 → text ≡ heads_line most_heads →
      AnswersNarrow list bytes status text
  analysed : (status : ℕ) (text : List ℕ) (report : NarrowReport) → length bytes ≤ most_bytes → IsNarrowReportOver bytes list report →
      status ≡ 0 → text ≡ narrow_text_of report → AnswersNarrow list bytes status text
