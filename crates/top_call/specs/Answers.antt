-- How a call carries out an order.
--
--   usage_text                        how an order is given
--   IsUsage status text               what arguments get that are no order
--   IsCodeOver contents               a file with these contents, or one whose contents aren't told, is accepted
--   IsReadFault contents Rose ReportRose   the cause of a read fault of an order over a file and a report: that of the file's; or
--                                     that of the report's, which is read only where the file is accepted
--   EndsOverBoth file report Is call answer   a call of an order over a file and a report ends so
--   IsRunOrder file report steps regs call answer   a call that is to check a run ends so: where the registers are none, as one
--                                     whose arguments are no order
--   IsAskedAt at row point            the texts are those of this point and of some row; or one of them isn't
--   IsRefuteOrder file list at row call answer   a call that asks whether a row holds ends so: where these aren't the texts of a point
--                                     and a row, as one whose arguments are no order
--   IsCarriedOut order call answer    the call ends as the order has it
use Rattle.std.specs.Prelude.{◌≡◌, ℕ, ◌⊎◌, List, ◌++◌, Option, Some, None, codes}
use Rattle.outside.specs.Counts.{HasRisen}
use Rattle.elf_image.specs.declared.image.Image.{Image}
use Rattle.flow_points.specs.PointLists.{FlowPoints}
use Rattle.flow_points.specs.declared.code_points.Point.{Point}
use Rattle.report_text.specs.Text.{nl}
use Rattle.start_registers.specs.Settings.{IsStart}
use Rattle.orders.specs.Orders.{Order, Usage, Analyse, Certify, ListCode, CheckRun, Generate, Upgrade, Narrow, Refute}
use Rattle.call_ends.specs.Calls.{Call, Ends, EndsOver, IsOverBoth, SaysIn, no_memory_text}
use Rattle.order_answers.specs.Answers.{report_text, IsAnswer, IsListing, IsGenAnswer}
use Rattle.order_answers.specs.CertsText.{certs_text}
use Rattle.order_answers.specs.FileRefusals.{IsCode}
use Rattle.order_answers.specs.NarrowAnswers.{AnswersNarrow}
use Rattle.order_answers.specs.RefuteAnswers.{AnswersRefute}
use Rattle.order_answers.specs.ReportAnswers.{IsRun, IsUpgrade}
use Rattle.row_read.specs.Points.{IsPointReading}
use Rattle.row_read.specs.Rows.{IsRowText}

abbrev pub usage_text : List ℕ
usage_text =
    codes "usage:" ++ nl ++ codes "analyse FILE --track LIST" ++ nl ++ codes "cert FILE --track LIST" ++ nl ++ codes "list FILE" ++ nl
    ++ codes "run FILE REPORT --steps N [--regs R]" ++ nl ++ codes "gen N --track LIST" ++ nl ++ codes "upgrade FILE REPORT" ++ nl
    ++ codes "narrow FILE --track LIST" ++ nl ++ codes "refute FILE --track LIST --at POINT --row ROW" ++ nl

pub record IsUsage (status : ℕ) (text : List ℕ) : Type 0 where
  pub status_is : status ≡ 2
  pub text_is : text ≡ usage_text

abbrev pub IsCodeOver : Option (List ℕ) → Type 0
IsCodeOver (Some bytes) = (image : Image) × (points : FlowPoints) × IsCode bytes image points
IsCodeOver None = (bytes : List ℕ) × (image : Image) × (points : FlowPoints) × IsCode bytes image points

abbrev pub IsReadFault : Option (List ℕ) → Type 0 → Type 0 → Type 0
IsReadFault file Rose ReportRose = Rose ⊎ (IsCodeOver file × ReportRose)

abbrev pub EndsOverBoth : List ℕ → List ℕ → (List ℕ → List ℕ → ℕ → List ℕ → Type 0) → Call → ℕ → Type 0
EndsOverBoth file report Is c answer =
    Ends (IsOverBoth (c.contents file) (c.contents report) Is)
    (IsReadFault (c.contents file) (HasRisen (c.faults_before file) (c.faults_after file)) (HasRisen (c.faults_before report) (c.faults_after report)))
    c answer

pub data IsRunOrder (file report : List ℕ) (steps : ℕ) (regs : Option (List ℕ)) (c : Call) (answer : ℕ) : Type 0 where
  no_registers : IsStart regs None → Ends IsUsage ⊥ c answer → IsRunOrder file report steps regs c answer
  run : (start : List ℕ) → IsStart regs (Some start) → EndsOverBoth file report (IsRun start steps) c answer
      → IsRunOrder file report steps regs c answer
  no_start : SaysIn c 5 no_memory_text answer → IsRunOrder file report steps regs c answer

abbrev pub IsAskedAt : List ℕ → List ℕ → Option Point → Type 0
IsAskedAt at row (Some point) = IsPointReading at (Some (point.proc_entry, point.address)) × IsRowText row
IsAskedAt at row None = IsPointReading at None ⊎ (IsRowText row → ⊥)

pub data IsRefuteOrder (file list at row : List ℕ) (c : Call) (answer : ℕ) : Type 0 where
  not_asked : IsAskedAt at row None → Ends IsUsage ⊥ c answer → IsRefuteOrder file list at row c answer
  asked : (point : Point) → IsAskedAt at row (Some point) → EndsOver file (AnswersRefute list point row) c answer
      → IsRefuteOrder file list at row c answer
  wanting : SaysIn c 5 no_memory_text answer → IsRefuteOrder file list at row c answer

abbrev pub IsCarriedOut : Order → Call → ℕ → Type 0
IsCarriedOut Usage c answer = Ends IsUsage ⊥ c answer
IsCarriedOut (Analyse file list) c answer = EndsOver file (IsAnswer report_text list) c answer
IsCarriedOut (Certify file list) c answer = EndsOver file (IsAnswer certs_text list) c answer
IsCarriedOut (ListCode file) c answer = EndsOver file IsListing c answer
IsCarriedOut (CheckRun file report steps regs) c answer = IsRunOrder file report steps regs c answer
IsCarriedOut (Generate n list) c answer = Ends (IsGenAnswer n list) ⊥ c answer
IsCarriedOut (Upgrade file report) c answer = EndsOverBoth file report IsUpgrade c answer
IsCarriedOut (Narrow file list) c answer = EndsOver file (AnswersNarrow list) c answer
IsCarriedOut (Refute file list at row) c answer = IsRefuteOrder file list at row c answer
