use Rattle.std.proofs.Common.{refl, ◌∙◌}
use Rattle.map_modules.proofs.Entries.{written_none, written_more, table_written}
use Rattle.proof_verify.proofs.openings.opening.Goals as goal

pub loop-at-init : goal.loop-at-init
loop-at-init c = written_none 17 289 _ refl

pub loop-at-preserved : goal.loop-at-preserved
loop-at-preserved c = written_more 17 289 _ c.loop-at.at c.loop-at.word-items _ refl c.loop-at-test.true c.loop-at.invariant c.opening_word.ensures

pub returns : goal.returns
returns c = c.from_words.ensures ∙ table_written 17 289 _ c.loop-at.at c.loop-at.word-items refl c.loop-at-test.false c.loop-at.invariant
