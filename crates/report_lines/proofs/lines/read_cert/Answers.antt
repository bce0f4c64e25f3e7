use Rattle.report_lines.proofs.LinesRead.{cert_is}
use Rattle.report_lines.proofs.lines.read_cert.Goals as goal

pub returns-in-None-read_cert_word : goal.returns-in-None-read_cert_word
returns-in-None-read_cert_word c name word fits e =
    c.in-None-read_cert_word.ensures word (cert_is c.args.text.now c.in-Some.name.now c.in-Some.behind.now name word c.in-Some.ensures fits e)
