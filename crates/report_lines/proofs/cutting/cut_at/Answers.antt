use Rattle.std.proofs.Common.{eqb, arith}
use Rattle.std.proofs.lemmas.List.Sums.{fails_before_first}
use Rattle.report_lines.proofs.Cuts.{cut_first}
use Rattle.report_lines.proofs.cutting.cut_at.Goals as goal

pub returns-then-at-text : goal.returns-then-at-text
returns-then-at-text c = λ k d lt. fails_before_first (λ b. eqb b c.args.byte) c.args.text.now k d (omega (arith, c.place_of-at.ensures.first))

pub returns : goal.returns
returns c = cut_first c.args.byte c.args.text.now c.place_of-at.result c.place_of-at.ensures.first (omega arith)
