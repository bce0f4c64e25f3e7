use Rattle.std.proofs.Common.{refl}
use Rattle.report_read.specs.Telling.{no_header}
use Rattle.report_read.proofs.Folding.{text_told}
use Rattle.report_read.proofs.read.read_text.Goals as goal

pub returns-in-None-read_header : goal.returns-in-None-read_header
returns-in-None-read_header c =
    no_header c.in-Some.first.now c.in-Some.behind.now (record { text_is = c.in-Some.ensures.0; clean = c.in-Some.ensures.1 }) c.in-None-read_header.ensures refl

pub returns-in-Some-read_header : goal.returns-in-Some-read_header
returns-in-Some-read_header c =
    let read = c.in-Some-read_header.ensures in
    text_told c.in-Some-read_header.version c.args.bytes.now c.in-Some.first.now c.in-Some.behind.now c.read_tracked.result
    (record { text_is = c.in-Some.ensures.0; clean = c.in-Some.ensures.1 }) read.0 read.1 read.2 c.read_tracked.ensures
