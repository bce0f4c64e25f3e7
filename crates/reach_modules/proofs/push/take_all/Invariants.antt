use Rattle.std.proofs.Common.{take}
use Rattle.row_engine.proofs.InTurn.{TakenSoFar}
use Rattle.reach_modules.specs.Offers.{IsListed}
use Rattle.reach_modules.proofs.push.take_all.Given as goal

abbrev pub invariant-loop-offered : goal.invariant-loop-offered
invariant-loop-offered g l = TakenSoFar 17 (IsListed l.offers) (IsListed (take l.offered-index l.offers)) l.fn.nodes l.nodes l.fn.steps l.steps
