use Rattle.std.proofs.Common.{◌≡◌, ◌++◌, map, take}
use Rattle.reach_modules.specs.Offers.{offer}
use Rattle.reach_modules.proofs.edges.offer_all.Given as goal

abbrev pub invariant-loop-row : goal.invariant-loop-row
invariant-loop-row l = l.offers ≡ l.fn.offers ++ map (λ v. offer l.node v) (take l.row-index l.rows)
