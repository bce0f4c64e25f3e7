use Rattle.std.proofs.Common.{arith}
use Rattle.word_rows.proofs.Covered.{lead_of_drop, lead_at_end}
use Rattle.word_rows.proofs.masks.lead_from.Goals as goal

pub returns-then-words-i-ne0 : goal.returns-then-words-i-ne0
returns-then-words-i-ne0 c =
    lead_of_drop c.args.at c.loop-i.i c.args.words.now (omega arith) c.loop-i-test.true c.if-words-i-ne0.true c.loop-i.invariant

pub returns : goal.returns
returns c = lead_at_end c.args.at c.args.words.now c.requires (λ k from below. c.loop-i.invariant k from (omega arith))
