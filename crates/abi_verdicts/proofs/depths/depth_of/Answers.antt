use Rattle.abi_verdicts.proofs.ByLevels.{depth_at}
use Rattle.abi_verdicts.proofs.depths.depth_of.Goals as goal

pub returns : goal.returns
returns c = depth_at c.args.p c.args.levels.now c.depth_by-depth.result c.depth_by-depth.ensures
