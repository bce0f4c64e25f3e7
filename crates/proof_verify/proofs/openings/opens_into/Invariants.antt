use Rattle.std.proofs.Common.{ℕ, ◌<◌, IsTrue, Contains, replicate}
use Rattle.word_rows.specs.Rows.{unit}
use Rattle.row_modules.specs.Modules.{IsCombination}
use Rattle.row_modules.specs.Positions.{has}
use Rattle.affine_prog.specs.LevelPaths.{opening_map}
use Rattle.proof_verify.proofs.openings.opens_into.Given as goal

abbrev pub invariant-loop-i : goal.invariant-loop-i
invariant-loop-i l =
    IsCombination 289 (Contains l.basis) (opening_map l.registers l.slots (replicate 16 0))
    × ((k : ℕ) → k < l.i → IsTrue (has l.slots k) → IsCombination 289 (Contains l.basis) (opening_map l.registers l.slots (unit 16 k)))
