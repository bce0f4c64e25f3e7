use Rattle.std.proofs.Common.{◌≡◌, ◌*◌, ◌/◌, slice_index}
use Rattle.word_rows.specs.Words.{word}
use Rattle.map_modules.specs.Matrices.{cell, sum_below}
use Rattle.map_modules.proofs.kernels.form_by_column.Given as goal

abbrev pub invariant-loop-k : goal.invariant-loop-k
invariant-loop-k g l = l.sum ≡ word (sum_below l.k (λ k. slice_index l.form k * cell (g.row.N / 17) l.v k l.j))
