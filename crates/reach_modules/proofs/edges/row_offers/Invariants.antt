use Rattle.std.proofs.Common.{take}
use Rattle.reach_modules.specs.Offers.{AlongOffers}
use Rattle.reach_modules.proofs.edges.row_offers.Given as goal

abbrev pub invariant-loop-k : goal.invariant-loop-k
invariant-loop-k l = AlongOffers l.program (take l.k-index l.k-items) l.row l.offers
