use Rattle.std.proofs.Common.{slice_index, if◌then◌else◌, ◌==◌, ◌&&◌, ◌||◌}
use Rattle.row_modules.specs.Positions.{has}
use Rattle.map_modules.proofs.Entries.{Written}
use Rattle.proof_verify.proofs.openings.opening.Given as goal

abbrev pub invariant-loop-at : goal.invariant-loop-at
invariant-loop-at l =
    Written 17 (λ i j. if has l.registers i || (i == 16) then (if j == i then 1 else 0) else if has l.slots i && (j == 16) then slice_index l.words i else 0) l.at l.word-items
