-- The words so far.
use Rattle.std.proofs.Common.{◌≡◌, ℕ, ◌<◌, get_or, length}
use Rattle.narrow_words.specs.Text.{widened}
use Rattle.narrow_words.proofs.text.widened_row.Given as goal

abbrev pub invariant-loop-i : goal.invariant-loop-i
invariant-loop-i l = record {
  width : length l.own ≡ 17;
  done : (k : ℕ) → k < l.i → get_or l.own k 0 ≡ widened (get_or l.row k 0);
}
