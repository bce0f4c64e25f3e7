use Rattle.std.proofs.Common.{◌*◌, slice_index, if◌then◌else◌, ◌==◌}
use Rattle.map_modules.specs.Matrices.{cell, sum_below}
use Rattle.map_modules.proofs.Entries.{Written}
use Rattle.map_modules.proofs.matrices.after_affine.Given as goal

abbrev pub invariant-loop-at : goal.invariant-loop-at
invariant-loop-at g l = Written l.columns (λ i j. if i == l.i then sum_below 17 (λ k. slice_index l.form k * cell l.columns l.v k j) else cell l.columns l.v i j) l.at l.word-items
