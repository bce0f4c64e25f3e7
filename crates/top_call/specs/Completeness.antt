-- Completeness: an order whose input nothing refuses is done.
--
--   IsUnrefused IsCause bytes   the bytes are no more than a file may have, and want of memory is the one cause of a refusal
--   IsAskable bytes list at row   the bytes are no more than a file may have, and want of memory is the one cause for which it isn't told
--                               whether the row holds at the point
--   HasContents contents Is     the contents are told, and Is holds of them
--   IsReportFor bytes told report   what is told is the text of this report of words, which isn't too long, and whose slots'
--                               procedures and points are the file's
--   IsOld bytes report          the report is of version 1, and no program for its names has too many heads
--   IsListTaken bytes list      want of memory is the one cause for which the list is refused over the bytes' image and points
--   IsUnhindered order c        the order is none of usage, and the contents of its file are told and nothing refuses them and its
--                               list, or its number is in range and nothing refuses its list over the file made from it; and where
--                               it names a report, its contents are told, and are one of the file, and of an old one for an upgrade;
--                               the registers of a run are a list of registers; and a row that is asked for is one at a point of the file
--   Done Is status text         so it is, with status 0
--   Checked Is status text      so it is, with status 0 or 7
--   IsDone order c answer       the call ends with such a status and the order's whole text, or as a fault or want of memory has it
use Rattle.std.specs.Prelude.{◌≡◌, ◌⊎◌, ℕ, ◌≤◌, List, Option, Some, None, length}
use Rattle.elf_image.specs.declared.image.Image.{Image}
use Rattle.flow_points.specs.PointLists.{FlowPoints}
use Rattle.flow_points.specs.declared.code_points.Point.{Point}
use Rattle.affine_prog.specs.declared.Program.{Program}
use Rattle.affine_lift.specs.Lifting.{IsLifted}
use Rattle.affine_lift.specs.Tracking.{IsTrackRefusal, scope_of}
use Rattle.refusals.specs.declared.track.TrackRefusal as tracks
use Rattle.refusals.specs.declared.track.TrackRefusal.{TrackRefusal}
use Rattle.gen_elf.specs.Generated.{IsGenerated, IsInRange}
use Rattle.report_text.specs.Text.{text_of}
use Rattle.report_text.specs.declared.reports.Report.{Report}
use Rattle.report_read.specs.Written.{IsOfWords}
use Rattle.run_answers.specs.Laws.{IsOfFile}
use Rattle.analyser_core.specs.Accepted.{HasPoints, IsImageOf, IsRefusal, most_bytes}
use Rattle.analyser_core.specs.Heads.{HasManyHeads}
use Rattle.analyser_core.specs.declared.refusal.Refusal.{Refusal}
use Rattle.analyser_core.specs.declared.refusal.Refusal.TheVariants.{Memory}
use Rattle.start_registers.specs.Settings.{IsStart}
use Rattle.orders.specs.Orders.{Order, Usage, Analyse, Certify, ListCode, CheckRun, Generate, Upgrade, Narrow, Refute}
use Rattle.refusal_lines.specs.Lines.{most_report_bytes}
use Rattle.call_ends.specs.Calls.{Call, SaysIn, Ends, EndsOver, no_memory_text}
use Rattle.order_answers.specs.FileRefusals.{IsCode, IsListRefusal}
use Rattle.order_answers.specs.ReportAnswers.{IsRun, IsUpgrade}
use Rattle.order_answers.specs.Answers.{IsAnswer, IsGenAnswer, IsListing, report_text}
use Rattle.order_answers.specs.CertsText.{certs_text}
use Rattle.order_answers.specs.NarrowAnswers.{AnswersNarrow}
use Rattle.order_answers.specs.RefuteAnswers.{AnswersRefute}
use Rattle.narrow_words.specs.Accepted.{IsNarrowRefusal}
use Rattle.refute_answers.specs.Asked.{IsRefuteRefusal}
use Rattle.refute_answers.specs.declared.refusal.RefuteRefusal.{RefuteRefusal}
use Rattle.refute_answers.specs.declared.refusal.RefuteRefusal.TheVariants.{File}
use Rattle.top_call.specs.Answers.{EndsOverBoth, IsAskedAt}

pub record IsUnrefused (IsCause : Refusal → Type 0) (bytes : List ℕ) : Type 0 where
  pub short : length bytes ≤ most_bytes
  pub only_memory : (refusal : Refusal) → IsCause refusal → refusal ≡ Memory

pub record IsAskable (bytes list : List ℕ) (at : Point) (row : List ℕ) : Type 0 where
  pub short : length bytes ≤ most_bytes
  pub only_memory : (refusal : RefuteRefusal) → IsRefuteRefusal bytes list at row refusal → refusal ≡ File Memory

abbrev pub HasContents : Option (List ℕ) → (List ℕ → Type 0) → Type 0
HasContents (Some bytes) Is = Is bytes
HasContents None Is = ⊥

pub record IsReportFor (bytes told : List ℕ) (report : Report) : Type 0 where
  pub short : length told ≤ most_report_bytes
  pub words : IsOfWords report
  pub text_is : told ≡ text_of report
  pub of_file : (image : Image) (points : FlowPoints) → IsCode bytes image points → IsOfFile points report

pub record IsOld (bytes : List ℕ) (report : Report) : Type 0 where
  pub version_is : report.version ≡ 1
  pub few_heads : (image : Image) (points : FlowPoints) (program : Program) → IsCode bytes image points →
      IsLifted points report.tracked.names program → HasManyHeads program → ⊥

abbrev pub IsListTaken : List ℕ → List ℕ → Type 0
IsListTaken bytes list =
    (image : Image) (points : FlowPoints) (refusal : TrackRefusal) → IsImageOf bytes image → HasPoints image points
    → IsTrackRefusal (scope_of image.symbols points.procedures) list refusal → refusal ≡ tracks.TheVariants.Memory

abbrev pub IsUnhindered : Order → Call → Type 0
IsUnhindered Usage c = ⊥
IsUnhindered (Analyse file list) c = HasContents (c.contents file) (λ bytes. IsUnrefused (IsRefusal bytes list) bytes)
IsUnhindered (Certify file list) c = HasContents (c.contents file) (λ bytes. IsUnrefused (IsRefusal bytes list) bytes)
IsUnhindered (ListCode file) c = HasContents (c.contents file) (λ bytes. IsUnrefused (IsListRefusal bytes) bytes)
IsUnhindered (CheckRun file report steps regs) c =
    ((start : List ℕ) × IsStart regs (Some start))
    × HasContents (c.contents file) (λ bytes. IsUnrefused (IsListRefusal bytes) bytes
    × HasContents (c.contents report) (λ told. (old : Report) × IsReportFor bytes told old))
IsUnhindered (Generate n list) c = IsInRange n × ((bytes : List ℕ) → IsGenerated n bytes → IsListTaken bytes list)
IsUnhindered (Upgrade file report) c =
    HasContents (c.contents file) (λ bytes. IsUnrefused (IsListRefusal bytes) bytes
    × HasContents (c.contents report) (λ told. (old : Report) × IsReportFor bytes told old × IsOld bytes old))
IsUnhindered (Narrow file list) c = HasContents (c.contents file) (λ bytes. IsUnrefused (IsNarrowRefusal bytes list) bytes)
IsUnhindered (Refute file list at row) c =
    ((point : Point) × IsAskedAt at row (Some point))
    × ((point : Point) → IsAskedAt at row (Some point) → HasContents (c.contents file) (λ bytes. IsAskable bytes list point row))

abbrev pub Done : (ℕ → List ℕ → Type 0) → ℕ → List ℕ → Type 0
Done Is status text = Is status text × (status ≡ 0)

abbrev pub Checked : (ℕ → List ℕ → Type 0) → ℕ → List ℕ → Type 0
Checked Is status text = Is status text × ((status ≡ 0) ⊎ (status ≡ 7))

abbrev pub IsDone : Order → Call → ℕ → Type 0
IsDone Usage c answer = ⊥
IsDone (Analyse file list) c answer = EndsOver file (λ bytes. Done (IsAnswer report_text list bytes)) c answer
IsDone (Certify file list) c answer = EndsOver file (λ bytes. Done (IsAnswer certs_text list bytes)) c answer
IsDone (ListCode file) c answer = EndsOver file (λ bytes. Done (IsListing bytes)) c answer
IsDone (CheckRun file report steps regs) c answer =
    ((start : List ℕ) × IsStart regs (Some start) × EndsOverBoth file report (λ bytes told. Checked (IsRun start steps bytes told)) c answer)
    ⊎ SaysIn c 5 no_memory_text answer
IsDone (Generate n list) c answer = Ends (Done (IsGenAnswer n list)) ⊥ c answer
IsDone (Upgrade file report) c answer = EndsOverBoth file report (λ bytes told. Done (IsUpgrade bytes told)) c answer
IsDone (Narrow file list) c answer = EndsOver file (λ bytes. Done (AnswersNarrow list bytes)) c answer
IsDone (Refute file list at row) c answer =
    ((point : Point) × IsAskedAt at row (Some point) × EndsOver file (λ bytes. Done (AnswersRefute list point row bytes)) c answer)
    ⊎ SaysIn c 5 no_memory_text answer
