use Rattle.std.proofs.Common.{sym, arith, eqb}
use Rattle.std.proofs.lemmas.List.Sums.{position_or_len_is}
use Rattle.std.proofs.lemmas.Bool.{eq-eqb}
use Rattle.report_lines.proofs.cutting.place_of.Goals as goal

pub returns-else-text-at-clause-first : goal.returns-else-text-at-clause-first
returns-else-text-at-clause-first c =
    sym (position_or_len_is (λ b. eqb b c.args.byte) c.args.text.now c.loop-at.at 0 c.loop-at.invariant.within c.loop-at.invariant.none (λ lt. eq-eqb _ c.args.byte c.if-text-at.false))

pub returns-after-loop-at-clause-first : goal.returns-after-loop-at-clause-first
returns-after-loop-at-clause-first c =
    sym (position_or_len_is (λ b. eqb b c.args.byte) c.args.text.now c.loop-at.at 0 c.loop-at.invariant.within c.loop-at.invariant.none (λ lt. absurd (omega arith)))
