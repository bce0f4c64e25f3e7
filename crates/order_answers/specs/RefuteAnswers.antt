-- What `refute` answers.
--
--   no_point_line address              the line of a point with this address that is none of the file's
--   row_line refusal                   the line of what a row's text is refused for
--   AnswersRefute list at row bytes status text   what `refute` answers over a file with these bytes: what an analysis of it is refused
--                                      for; that there is no such point; what the row's text is refused for; or the text that says
--                                      whether the row holds there, and else gives a path that breaks it
use Rattle.std.specs.Prelude.{◌≡◌, ◌≢◌, ℕ, ◌≤◌, List, length, codes}
use Rattle.number_text.specs.Numerals.{dec, hex}
use Rattle.elf_image.specs.declared.image.Image.{Image}
use Rattle.flow_points.specs.PointLists.{FlowPoints}
use Rattle.flow_points.specs.declared.code_points.Point.{Point}
use Rattle.affine_lift.specs.Tracking.{IsTrackRefusal, scope_of}
use Rattle.refusals.specs.declared.track.TrackRefusal as tracks
use Rattle.refusals.specs.declared.track.TrackRefusal.{TrackRefusal}
use Rattle.analyser_core.specs.Heads.{most_heads}
use Rattle.analyser_core.specs.Accepted.{most_bytes, IsImageOf, HasPoints, IsCrowded}
use Rattle.row_read.specs.declared.refusal.RowRefusal.{RowRefusal}
use Rattle.row_read.specs.declared.refusal.RowRefusal.TheVariants as rows
use Rattle.refute_answers.specs.Asked.{IsOver, IsStranger, IsBadRow, IsRefuteAnswer}
use Rattle.refusal_lines.specs.Lines.{refused as refused_line, valued, track_line, heads_line}
use Rattle.order_answers.specs.FileRefusals.{IsRefused}

abbrev pub no_point_line : ℕ → List ℕ
no_point_line address = refused_line (valued (codes "NoSuchPoint") (hex address))

abbrev pub row_line : RowRefusal → List ℕ
row_line (rows.UnknownName place) = refused_line (valued (codes "row UnknownName") (dec place))
row_line (rows.Order place) = refused_line (valued (codes "row Order") (dec place))

pub data AnswersRefute (list : List ℕ) (at : Point) (row bytes : List ℕ) : ℕ → List ℕ → Type 0 where
  refused : (status : ℕ) (text : List ℕ) → IsRefused bytes status text → AnswersRefute list at row bytes status text
  no_list : (status : ℕ) (text : List ℕ) (image : Image) (points : FlowPoints) (refusal : TrackRefusal) → length bytes ≤ most_bytes →
      IsImageOf bytes image → HasPoints image points → IsTrackRefusal (scope_of image.symbols points.procedures) list refusal →
      refusal ≢ tracks.TheVariants.Memory → status ≡ 1 → text ≡ track_line refusal → AnswersRefute list at row bytes status text
  crowded : (status : ℕ) (text : List ℕ) → length bytes ≤ most_bytes → IsCrowded bytes list → status ≡ 1 → text ≡ heads_line most_heads →
      AnswersRefute list at row bytes status text
  no_point : (status : ℕ) (text : List ℕ) → length bytes ≤ most_bytes → IsOver bytes list (λ points names. IsStranger points names at) →
      status ≡ 1 → text ≡ no_point_line at.address → AnswersRefute list at row bytes status text
  bad_row : (status : ℕ) (text : List ℕ) (refusal : RowRefusal) → length bytes ≤ most_bytes →
      IsOver bytes list (λ points names. IsBadRow points names at row refusal) → status ≡ 1 → text ≡ row_line refusal →
      AnswersRefute list at row bytes status text
  told : (status : ℕ) (text : List ℕ) → length bytes ≤ most_bytes → IsRefuteAnswer bytes list at row text → status ≡ 0 →
      AnswersRefute list at row bytes status text
