use Rattle.std.proofs.Common.{◌≡◌, map, take}
use Rattle.map_modules.specs.Matrices.{product}
use Rattle.call_summaries.proofs.take.products.Given as goal

abbrev pub invariant-loop-row : goal.invariant-loop-row
invariant-loop-row l = l.products ≡ map (λ x. product l.after x) (take l.row-index l.rows)
