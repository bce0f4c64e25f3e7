use Rattle.std.proofs.Common.{refl}
use Rattle.report_lines.specs.Lines.{Proc, Cert, At, NoRows, Unreached, End}
use Rattle.report_read.specs.Steps.{a_line}
use Rattle.report_read.proofs.judging.judge_other.Goals as goal

pub returns-in-Some-Proc : goal.returns-in-Some-Proc
returns-in-Some-Proc c =
    let l = rw c.in-Some-Proc.field-0-is at c.in-Some-Proc.ensures in a_line (Proc c.in-Some-Proc.entry) l.0 l.1 refl c.proc_step.ensures

pub returns-in-Some-Cert : goal.returns-in-Some-Cert
returns-in-Some-Cert c =
    let l = rw c.in-Some-Cert.field-0-is at c.in-Some-Cert.ensures in a_line (Cert c.in-Some-Cert.name.now c.in-Some-Cert.word) l.0 l.1 refl c.cert_step.ensures

pub returns-in-Some-At : goal.returns-in-Some-At
returns-in-Some-At c =
    let l = rw c.in-Some-At.field-0-is at c.in-Some-At.ensures in a_line (At c.in-Some-At.address) l.0 l.1 refl c.at_step.ensures

pub returns-in-Some-NoRows : goal.returns-in-Some-NoRows
returns-in-Some-NoRows c =
    let l = rw c.in-Some-NoRows.field-0-is at c.in-Some-NoRows.ensures in a_line NoRows l.0 l.1 refl c.no_rows_step.ensures

pub returns-in-Some-Unreached : goal.returns-in-Some-Unreached
returns-in-Some-Unreached c =
    let l = rw c.in-Some-Unreached.field-0-is at c.in-Some-Unreached.ensures in a_line Unreached l.0 l.1 refl c.unreached_step.ensures

pub returns-in-Some-End : goal.returns-in-Some-End
returns-in-Some-End c =
    let l = rw c.in-Some-End.field-0-is at c.in-Some-End.ensures in a_line End l.0 l.1 refl c.end_step.ensures
