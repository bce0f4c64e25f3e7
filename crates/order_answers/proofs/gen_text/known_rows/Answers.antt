use Rattle.order_answers.proofs.RowsTold.{each_tells_few}
use Rattle.order_answers.proofs.gen_text.known_rows.Goals as goal

pub returns : goal.returns
returns c = each_tells_few c.args.report.now.tracked.names c.args.report.now.points c.args.report.now.reduced
