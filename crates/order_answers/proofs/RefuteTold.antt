-- What `refute` answers to a file, its code or a list that is refused.
use Rattle.std.proofs.Common.{◌≤◌, ℕ, List, length, refl, ap, ◌∙◌}
use Rattle.flow_points.specs.declared.code_points.Point.{Point}
use Rattle.analyser_core.specs.declared.refusal.Refusal.{Refusal}
use Rattle.analyser_core.specs.declared.refusal.Refusal.TheVariants.{Elf, Flow, Track, Heads, Memory}
use Rattle.analyser_core.specs.Accepted.{most_bytes, IsRefusal}
use Rattle.refusal_lines.specs.Lines.{heads_line}
use Rattle.order_answers.specs.RefuteAnswers.{AnswersRefute, refused, no_list, crowded}
use Rattle.order_answers.specs.FileRefusals.{IsLineOf, no_image, bad_flow}

pub refute_refused : (list : List ℕ) (at : Point) (row bytes : List ℕ) (refusal : Refusal) (text : List ℕ) → length bytes ≤ most_bytes → IsRefusal bytes list refusal
    → IsLineOf bytes refusal text → AnswersRefute list at row bytes 1 text
refute_refused list at row bytes (Elf refusal) text short is line = refused 1 text (no_image 1 text refusal short is refl line)
refute_refused list at row bytes (Flow refusal) text short is line = refused 1 text (bad_flow 1 text is.0 refusal short is.1 is.2 refl line)
refute_refused list at row bytes (Track refusal) text short is line = no_list 1 text is.0 is.1 refusal short is.2 is.3 is.4 is.5 refl line
refute_refused list at row bytes (Heads limit) text short is line = crowded 1 text short is.1 refl (line ∙ ap heads_line is.0)
refute_refused list at row bytes Memory text short is line = absurd line
