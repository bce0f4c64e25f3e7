-- What was read of a file and a report, or couldn't be.
use Rattle.std.proofs.Common.{ℕ, List, [], Option, Some, None, inl, inr, subst}
use Rattle.elf_image.specs.declared.image.Image.{Image}
use Rattle.flow_points.specs.PointLists.{FlowPoints}
use Rattle.refusal_lines.specs.Lines.{most_report_bytes, report_too_long_line}
use Rattle.call_ends.specs.declared.Reply.{Reply}
use Rattle.call_ends.specs.Calls.{IsAnswerOver, IsOverBoth}
use Rattle.call_ends.specs.Replies.{AnswersWith, IsLong}
use Rattle.call_ends.proofs.Laws.{long_over, over_one, reply_weaker}
use Rattle.order_answers.specs.FileRefusals.{IsRefused, IsCode}
use Rattle.order_answers.specs.ReportAnswers.{IsUnread, refused_file, too_long_report}
use Rattle.top_call.specs.Answers.{IsCodeOver, IsReadFault}
use Rattle.top_call.specs.Inputs.{HasCode}

refused_over : (file report : Option (List ℕ)) (status : ℕ) (text : List ℕ) → IsAnswerOver file IsRefused status text →
    IsOverBoth file report IsUnread status text
refused_over (Some b) (Some t) status text is = refused_file status text is
refused_over (Some b) None status text is = ([], refused_file status text is)
refused_over None (Some t) status text (b, is) = (b, refused_file status text is)
refused_over None None status text (b, is) = (b, ([], refused_file status text is))

long_report : (file report : Option (List ℕ)) (image : Image) (points : FlowPoints) (status : ℕ) (text : List ℕ) → HasCode file image points →
    IsLong most_report_bytes 6 report_too_long_line report status text → IsOverBoth file report IsUnread status text
long_report file report image points status text has is =
    over_one file (λ bytes. IsAnswerOver report (IsUnread bytes)) has.bytes status text has.whole
    (long_over most_report_bytes 6 report_too_long_line report (IsUnread has.bytes)
    (λ told s t long. too_long_report s t image points has.code long.long long.status_is long.text_is) status text is)

code_over : (file : Option (List ℕ)) (image : Image) (points : FlowPoints) → HasCode file image points → IsCodeOver file
code_over (Some b) image points has = (image, points, subst (λ x. IsCode x image points) has.whole has.code)
code_over None image points has = (has.bytes, image, points, has.code)

-- a file that gives no code, and a report that is too long or can't be read
pub no_code : (file report : Option (List ℕ)) (Rose ReportRose : Type 0) (reply : Reply) → AnswersWith (IsAnswerOver file IsRefused) Rose reply →
    AnswersWith (IsOverBoth file report IsUnread) (IsReadFault file Rose ReportRose) reply
no_code file report Rose ReportRose reply is = reply_weaker _ _ _ _ reply (refused_over file report) (λ rose. inl rose) is

pub no_report_bytes : (file report : Option (List ℕ)) (image : Image) (points : FlowPoints) (Rose ReportRose : Type 0) (reply : Reply) →
    HasCode file image points → AnswersWith (IsLong most_report_bytes 6 report_too_long_line report) ReportRose reply →
    AnswersWith (IsOverBoth file report IsUnread) (IsReadFault file Rose ReportRose) reply
no_report_bytes file report image points Rose ReportRose reply has is =
    reply_weaker _ _ _ _ reply (λ status text long. long_report file report image points status text has long)
    (λ rose. inr (code_over file image points has, rose)) is
