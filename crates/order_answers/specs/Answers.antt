-- Answers: the status and the text of an order over a file.
--
--   report_text report certs          the text of the report
--   IsAnswer told list bytes status text   what an order with a list answers over a file with these bytes, where told is
--                                     the text for a report and certificates
--   IsListed bytes text               the bytes are accepted, and the text is the list of their points
--   IsListing bytes status text       what `list` answers over it
--   IsGenAnswer n list status text
--                                     what `gen` answers: that n is out of range, or what an order with the list answers over the
--                                     file with n procedures, where a summary is told
use Rattle.std.specs.Prelude.{◌≡◌, ◌≢◌, ℕ, ◌≤◌, List, length}
use Rattle.elf_image.specs.declared.image.Image.{Image}
use Rattle.flow_points.specs.PointLists.{FlowPoints}
use Rattle.gen_elf.specs.Generated.{IsGenerated, IsOutOfRange}
use Rattle.affine_lift.specs.Tracking.{IsTrackRefusal, scope_of}
use Rattle.refusals.specs.declared.track.TrackRefusal as tracks
use Rattle.refusals.specs.declared.track.TrackRefusal.{TrackRefusal}
use Rattle.report_text.specs.declared.reports.Report.{Report}
use Rattle.report_text.specs.Text.{text_of}
use Rattle.analyser_core.specs.Heads.{most_heads}
use Rattle.analyser_core.specs.Accepted.{most_bytes, IsImageOf, HasPoints, IsCrowded}
use Rattle.analyser_core.specs.Reports.{IsReportOver}
use Rattle.analyser_core.specs.declared.cert_line.CertLine.{CertLine}
use Rattle.refusal_lines.specs.Lines.{range_line, track_line, heads_line}
use Rattle.order_answers.specs.FileRefusals.{IsRefused}
use Rattle.order_answers.specs.PointsList.{list_text}
use Rattle.order_answers.specs.GenText.{gen_text}

abbrev pub report_text : Report → List CertLine → List ℕ
report_text report certs = text_of report

pub data IsAnswer (told : Report → List CertLine → List ℕ) (list bytes : List ℕ) : ℕ → List ℕ → Type 0 where
  refused : (status : ℕ) (text : List ℕ) → IsRefused bytes status text → IsAnswer told list bytes status text
  no_list : (status : ℕ) (text : List ℕ) (image : Image) (points : FlowPoints) (refusal : TrackRefusal) → length bytes ≤ most_bytes →
      IsImageOf bytes image → HasPoints image points → IsTrackRefusal (scope_of image.symbols points.procedures) list refusal →
      refusal ≢ tracks.TheVariants.Memory → status ≡ 1 → text ≡ track_line refusal → IsAnswer told list bytes status text
  crowded : (status : ℕ) (text : List ℕ) → length bytes ≤ most_bytes → IsCrowded bytes list → status ≡ 1 → text ≡ heads_line most_heads →
      IsAnswer told list bytes status text
  analysed : (status : ℕ) (text : List ℕ) (report : Report) (certs : List CertLine) → length bytes ≤ most_bytes →
      IsReportOver bytes list report certs → status ≡ 0 → text ≡ told report certs → IsAnswer told list bytes status text

pub record IsListed (bytes text : List ℕ) : Type 0 where
  pub image : Image
  pub points : FlowPoints
  pub is_image : IsImageOf bytes image
  pub has_points : HasPoints image points
  pub text_is : text ≡ list_text points.points

pub data IsListing (bytes : List ℕ) : ℕ → List ℕ → Type 0 where
  refused : (status : ℕ) (text : List ℕ) → IsRefused bytes status text → IsListing bytes status text
  listed : (status : ℕ) (text : List ℕ) → length bytes ≤ most_bytes → IsListed bytes text → status ≡ 0 → IsListing bytes status text

pub data IsGenAnswer (n : ℕ) (list : List ℕ) : ℕ → List ℕ → Type 0 where
  out_of_range : (status : ℕ) (text : List ℕ) → IsOutOfRange n → status ≡ 1 → text ≡ range_line n → IsGenAnswer n list status text
  generated : (status : ℕ) (text bytes : List ℕ) → IsGenerated n bytes → IsAnswer (gen_text n bytes) list bytes status text →
      IsGenAnswer n list status text
