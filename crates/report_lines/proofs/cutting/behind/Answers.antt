use Rattle.report_lines.proofs.Cuts.{prefix_is, no_prefix}
use Rattle.report_lines.proofs.cutting.behind.Goals as goal

pub returns-then-eq : goal.returns-then-eq
returns-then-eq c = prefix_is c.args.prefix.now c.args.text.now c.eq.result c.eq.ensures c.if-eq.true

pub returns-else-eq : goal.returns-else-eq
returns-else-eq c = no_prefix c.args.prefix.now c.args.text.now c.eq.result c.eq.ensures c.if-eq.false
