use Rattle.std.proofs.Common.{arith}
use Rattle.report_lines.proofs.Cuts.{behind_has_no}
use Rattle.report_lines.proofs.TermTexts.{star, no_term, no_star, no_constant}
use Rattle.report_lines.proofs.words.read_unsigned.Goals as goal

pub returns-then-is_empty : goal.returns-then-is_empty
returns-then-is_empty c =
    let cut = c.in-Some.ensures in (
      no_term c.args.plus c.args.text.now c.in-Some.number.now c.in-Some.name.now cut.0 cut.1 (λ l. absurd (grind arith)),
      λ w h same. no_constant c.args.text.now c.in-Some.number.now c.in-Some.name.now w cut.0 cut.1 h,
    )

pub returns-in-None-read_number : goal.returns-in-None-read_number
returns-in-None-read_number c =
    let cut = c.in-Some.ensures in (
      no_term c.args.plus c.args.text.now c.in-Some.number.now c.in-Some.name.now cut.0 cut.1 (λ l. c.in-None-read_number.ensures),
      λ w h same. no_constant c.args.text.now c.in-Some.number.now c.in-Some.name.now w cut.0 cut.1 h,
    )

pub returns-in-Some-read_number : goal.returns-in-Some-read_number
returns-in-Some-read_number c =
    let cut = c.in-Some.ensures in
    let word = c.in-Some-read_number.ensures in
    let clean = behind_has_no 32 42 c.args.text.now c.in-Some.number.now c.in-Some.name.now cut.0 c.requires in
    ((word.0, (grind arith, clean)), word.1, rw (star, ← word.2) cut.0)

pub returns-in-None-read_number-2 : goal.returns-in-None-read_number-2
returns-in-None-read_number-2 c =
    ((λ term fits same. no_star c.args.text.now term c.in-None.ensures fits), c.in-None-read_number-2.ensures)
