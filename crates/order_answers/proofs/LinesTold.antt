-- The answers to a file, its code or a list that is refused.
use Rattle.std.proofs.Common.{◌≤◌, ℕ, List, length, Result, Ok, Err, Vec, refl, ap, ◌∙◌}
use Rattle.std.specs.declared.alloc.Global.{Global}
use Rattle.std.specs.declared.alloc.AllocError.{AllocError}
use Rattle.std.specs.Result.{IfOk}
use Rattle.report_text.specs.declared.reports.Report.{Report}
use Rattle.analyser_core.specs.declared.cert_line.CertLine.{CertLine}
use Rattle.analyser_core.specs.declared.refusal.Refusal.{Refusal}
use Rattle.analyser_core.specs.declared.refusal.Refusal.TheVariants.{Elf, Flow, Track, Heads, Memory}
use Rattle.elf_image.specs.declared.image.Image.{Image}
use Rattle.analyser_core.specs.Accepted.{most_bytes, IsCodeRefusal, IsFileRefusal, IsImageOf, IsRefusal}
use Rattle.refusal_lines.specs.Lines.{heads_line}
use Rattle.order_answers.specs.Answers as answers
use Rattle.order_answers.specs.Answers.{no_list, crowded, IsAnswer, IsListing}
use Rattle.order_answers.specs.FileRefusals.{IsLineOf, IsRefused, IsListRefusal, no_image, bad_flow}

pub answer_refused : (told : Report → List CertLine → List ℕ) (list bytes : List ℕ) (refusal : Refusal) (text : List ℕ) → length bytes ≤ most_bytes →
    IsRefusal bytes list refusal → IsLineOf bytes refusal text → IsAnswer told list bytes 1 text
answer_refused told list bytes (Elf refusal) text short is line = answers.IsAnswer.refused 1 text (no_image 1 text refusal short is refl line)
answer_refused told list bytes (Flow refusal) text short is line =
    answers.IsAnswer.refused 1 text (bad_flow 1 text is.0 refusal short is.1 is.2 refl line)
answer_refused told list bytes (Track refusal) text short is line = no_list 1 text is.0 is.1 refusal short is.2 is.3 is.4 is.5 refl line
answer_refused told list bytes (Heads limit) text short is line = crowded 1 text short is.1 refl (line ∙ ap heads_line is.0)
answer_refused told list bytes Memory text short is line = absurd line

pub file_refused : (bytes : List ℕ) (refusal : Refusal) (text : List ℕ) → length bytes ≤ most_bytes → IsListRefusal bytes refusal →
    IsLineOf bytes refusal text → IsRefused bytes 1 text
file_refused bytes (Elf refusal) text short is line = no_image 1 text refusal short is refl line
file_refused bytes (Flow refusal) text short is line = bad_flow 1 text is.0 refusal short is.1 is.2 refl line
file_refused bytes (Track refusal) text short is line = absurd is
file_refused bytes (Heads limit) text short is line = absurd is
file_refused bytes Memory text short is line = absurd line

pub bytes_refused : (bytes : List ℕ) (refusal : Refusal) → IsFileRefusal bytes refusal → IsListRefusal bytes refusal
bytes_refused bytes (Elf refusal) is = is
bytes_refused bytes (Flow refusal) is = absurd is
bytes_refused bytes (Track refusal) is = is
bytes_refused bytes (Heads limit) is = is
bytes_refused bytes Memory is = tt

pub code_refused : (bytes : List ℕ) (image : Image) (refusal : Refusal) → IsImageOf bytes image → IsCodeRefusal image refusal → IsListRefusal bytes refusal
code_refused bytes image (Elf refusal) of is = absurd is
code_refused bytes image (Flow refusal) of is = (image, of, is)
code_refused bytes image (Track refusal) of is = is
code_refused bytes image (Heads limit) of is = is
code_refused bytes image Memory of is = tt

pub listing_refused : (bytes : List ℕ) (given : Result (ℕ × Vec ℕ Global) AllocError) → IfOk given (λ a. IsRefused bytes a.0 a.1.items) →
    IfOk given (λ a. IsListing bytes a.0 a.1.items)
listing_refused bytes (Ok a) is = answers.IsListing.refused a.0 a.1.items is
listing_refused bytes (Err e) is = tt
