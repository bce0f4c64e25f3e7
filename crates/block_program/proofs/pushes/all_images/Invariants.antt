use Rattle.std.proofs.Common.{Contains, take}
use Rattle.row_modules.specs.Maps.{Products}
use Rattle.map_modules.specs.Matrices.{apply}
use Rattle.row_images.specs.States.{Spans, IsMatrixOf}
use Rattle.block_program.proofs.pushes.all_images.Given as goal

abbrev pub invariant-loop-row : goal.invariant-loop-row
invariant-loop-row l = Spans l.all (Products apply (IsMatrixOf l.assigns) (Contains (take l.row-index l.rows)))
