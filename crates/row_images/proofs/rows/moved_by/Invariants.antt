use Rattle.std.proofs.Common.{◌≡◌, ◌/◌, map, take}
use Rattle.map_modules.specs.Matrices.{moved}
use Rattle.row_images.proofs.rows.moved_by.Given as goal

abbrev pub invariant-loop-map : goal.invariant-loop-map
invariant-loop-map g l = l.all ≡ map (λ m. moved (g.row.N / 17) m l.row) (take l.map-index l.maps)
