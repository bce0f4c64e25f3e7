use Rattle.std.proofs.Common.{ℕ, ◌/◌, ◌%◌, ◌<◌, get_or}
use Rattle.map_modules.proofs.kernels.matrix_from.Given as goal

abbrev pub invariant-loop-at : goal.invariant-loop-at
invariant-loop-at g l = (p : ℕ) → p < l.at → goal.F-post g l.fn.word_at (p / 17) (p % 17) (get_or l.word-items p 0)
