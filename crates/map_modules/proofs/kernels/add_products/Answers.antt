use Rattle.std.proofs.Common.{ℕ, ◌+◌, ◌*◌, ◌/◌, ap, ◌∙◌}
use Rattle.word_rows.specs.Words.{word}
use Rattle.map_modules.specs.Matrices.{cell}
use Rattle.map_modules.proofs.Rowwise.{added_none, added_more}
use Rattle.map_modules.proofs.kernels.add_products.Goals as goal

pub loop-j-init : goal.loop-j-init
loop-j-init g c = added_none _ _ _ _ _ _

pub loop-j-preserved : goal.loop-j-preserved
loop-j-preserved g c =
    added_more (g.row.N / 17) c.args.i c.args.c c.args.v.now c.args.l c.loop-j.j c.args.words.now c.loop-j.words _ c.requires.row
    c.loop-j-test.true (c.told-words ∙ c.requires.whole) c.loop-j.invariant
    (ap (λ (x : ℕ). word (cell (g.row.N / 17) c.loop-j.words c.args.i c.loop-j.j + word (c.args.c * x))) c.cell.ensures)
