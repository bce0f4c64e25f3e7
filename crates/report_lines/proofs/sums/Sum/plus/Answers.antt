use Rattle.report_lines.proofs.SumsGrow.{known_last}
use Rattle.report_lines.proofs.sums.Sum.plus.Goals as goal

pub returns-in-None : goal.returns-in-None
returns-in-None c terms sum h =
    c.in-None.ensures (known_last c.args.names.now c.args.procedure terms c.args.word c.args.name.now h)

pub returns-in-Some : goal.returns-in-Some
returns-in-Some c terms sum =
    c.at.ensures c.args.names.now c.args.procedure terms c.args.name.now c.requires.few c.in-Some.ensures sum
