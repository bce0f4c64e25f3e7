use Rattle.std.proofs.Common.{◌≡◌, ◌+◌, drop}
use Rattle.word_rows.specs.Words.{word}
use Rattle.word_rows.specs.Rows.{dot_sum, dot}
use Rattle.run_watch.proofs.products.product.Given as goal

abbrev pub invariant-loop-k : goal.invariant-loop-k
invariant-loop-k l = word (l.sum + dot_sum (drop l.k l.row) (drop l.k l.words)) ≡ dot l.row l.words
