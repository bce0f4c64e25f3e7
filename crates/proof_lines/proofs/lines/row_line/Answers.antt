use Rattle.std.proofs.Common.{◌≡◌, ℕ, List, Option, None, Some, Ok, refl, subst}
use Rattle.report_lines.specs.Parts.{parts_of}
use Rattle.proof_text.specs.declared.rows.WordAt.{WordAt}
use Rattle.proof_lines.specs.Words.{AreWordsRead}
use Rattle.proof_lines.specs.declared.lines.Line.TheVariants.{Head, Entry, Row, Claims}
use Rattle.proof_lines.proofs.Heads.{begins_apart, items_of_row, parts_row, parts_text, row_parts}
use Rattle.proof_lines.proofs.lines.row_line.Goals as goal

told : (width : ℕ) (text : List ℕ) (words : Option (List WordAt)) {read : Option (List WordAt)} → read ≡ words → AreWordsRead width (parts_of 32 text) (Ok read)
    → AreWordsRead width (parts_of 32 text) (Ok words)
told width text words is h = subst (λ (o : Option (List WordAt)). AreWordsRead width (parts_of 32 text) (Ok o)) is h

pub returns-in-Ok-None : goal.returns-in-Ok-None
returns-in-Ok-None c (Head p a) fits e = begins_apart 114 104 _ _ refl e
returns-in-Ok-None c (Entry p) fits e = begins_apart 114 101 _ _ refl e
returns-in-Ok-None c (Row row) fits e =
    told c.args.width c.args.text.now None c.in-Ok-None.field-0-is c.in-Ok-None.ensures row.words (items_of_row c.args.width row fits) (row_parts c.args.width row c.args.text.now c.requires fits e)
returns-in-Ok-None c Claims fits e = begins_apart 114 99 _ _ refl e

pub returns-in-Ok-Some : goal.returns-in-Ok-Some
returns-in-Ok-Some c =
    let read = told c.args.width c.args.text.now (Some c.in-Ok-Some.words) c.in-Ok-Some.field-0-is c.in-Ok-Some.ensures in
    (parts_row c.args.width c.in-Ok-Some.words c.args.text.now read.0 read.1, parts_text c.args.width c.in-Ok-Some.words c.args.text.now read.0 read.1)
