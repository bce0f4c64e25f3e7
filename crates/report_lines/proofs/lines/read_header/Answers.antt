use Rattle.report_lines.proofs.LinesRead.{no_version}
use Rattle.report_lines.proofs.lines.read_header.Goals as goal

pub returns-in-Some-read_dec : goal.returns-in-Some-read_dec
returns-in-Some-read_dec c =
    no_version c.in-Some.number.now c.args.piece.now c.in-Some-read_dec.field-0 c.in-Some.ensures c.in-Some-read_dec.ensures.0 c.in-Some-read_dec.ensures.1 c.in-Some-read_dec.field-0-test.0.1 c.in-Some-read_dec.field-0-test.1
