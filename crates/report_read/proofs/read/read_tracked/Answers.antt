use Rattle.std.proofs.Common.{refl}
use Rattle.report_read.specs.Telling.{lines, no_names, repeated, unknown}
use Rattle.report_read.proofs.Folding.{lines_told}
use Rattle.report_read.proofs.read.read_tracked.Goals as goal

pub returns-in-Ok : goal.returns-in-Ok
returns-in-Ok c =
    let read = c.in-Ok.ensures in
    lines_told c.args.version c.args.text.now c.in-Some.track.now c.in-Some.behind.now read.0 c.in-Ok.tracked c.read_lines.result
    (λ q j. lines c.in-Some.track.now c.in-Some.behind.now read.0 c.in-Ok.tracked (record { text_is = c.in-Some.ensures.0; clean = c.in-Some.ensures.1 }) read.1 read.2 read.3 j)
    c.read_lines.ensures

pub returns-in-Err-Syntax : goal.returns-in-Err-Syntax
returns-in-Err-Syntax c =
    let read = rw c.in-Err-Syntax.field-0-is at c.in-Err-Syntax.ensures in
    no_names c.in-Some.track.now c.in-Some.behind.now (record { text_is = c.in-Some.ensures.0; clean = c.in-Some.ensures.1 }) read refl

pub returns-in-Err-UnknownName : goal.returns-in-Err-UnknownName
returns-in-Err-UnknownName c =
    let read = rw c.in-Err-UnknownName.field-0-is at c.in-Err-UnknownName.ensures in
    unknown c.in-Some.track.now c.in-Some.behind.now read.0 (record { text_is = c.in-Some.ensures.0; clean = c.in-Some.ensures.1 }) read.1 read.2 read.3 refl

pub returns-in-Err-Order : goal.returns-in-Err-Order
returns-in-Err-Order c =
    let read = rw c.in-Err-Order.field-0-is at c.in-Err-Order.ensures in
    repeated c.in-Some.track.now c.in-Some.behind.now read.0 (record { text_is = c.in-Some.ensures.0; clean = c.in-Some.ensures.1 }) read.1 read.2 read.3 read.4 refl
