use Rattle.std.proofs.Common.{◌∙◌, ◌/◌}
use Rattle.map_modules.proofs.Entries.{written_none, written_more, table_written}
use Rattle.map_modules.proofs.matrices.after_affine.Goals as goal

pub loop-at-init : goal.loop-at-init
loop-at-init g c = written_none (g.row.N / 17) g.row.N _ c.requires.whole

pub loop-at-preserved : goal.loop-at-preserved
loop-at-preserved g c =
    written_more (g.row.N / 17) g.row.N _ c.loop-at.at c.loop-at.word-items _ c.requires.whole c.loop-at-test.true c.loop-at.invariant c.assigned_word.ensures

pub returns : goal.returns
returns g c = c.from_words.ensures ∙ table_written (g.row.N / 17) g.row.N _ c.loop-at.at c.loop-at.word-items c.requires.whole c.loop-at-test.false c.loop-at.invariant
