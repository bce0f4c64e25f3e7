use Rattle.std.proofs.Common.{ℕ, ◌<◌, IsTrue, Contains}
use Rattle.word_rows.specs.Rows.{words_of, plus, unit}
use Rattle.row_modules.specs.Modules.{IsCombination}
use Rattle.row_modules.specs.Positions.{has}
use Rattle.proof_verify.proofs.starts.starts_into.Given as goal

abbrev pub invariant-loop-i : goal.invariant-loop-i
invariant-loop-i l =
    IsCombination 17 (Contains l.basis) (unit 17 16)
    × ((k : ℕ) → k < l.i → IsTrue (has l.registers k) → IsCombination 17 (Contains l.basis) (words_of (plus 1 (unit 17 16) (unit 17 k))))
