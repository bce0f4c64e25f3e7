use Rattle.std.proofs.Common.{◌≡◌, ◌/◌, ◌++◌, drop}
use Rattle.row_images.specs.Images.{unknown_rows}
use Rattle.row_images.proofs.rows.add_unknown_rows.Given as goal

abbrev pub invariant-loop-k : goal.invariant-loop-k
invariant-loop-k g l = l.images ++ unknown_rows (g.row.N / 17) (drop l.k l.assigns) l.word ≡ l.fn.images ++ unknown_rows (g.row.N / 17) l.assigns l.word
