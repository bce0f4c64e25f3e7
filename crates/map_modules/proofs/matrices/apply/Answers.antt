use Rattle.std.proofs.Common.{◌∙◌}
use Rattle.map_modules.proofs.Products.{moved-apply}
use Rattle.map_modules.proofs.matrices.apply.Goals as goal

pub returns : goal.returns
returns c = c.moved.ensures ∙ moved-apply c.args.m.now c.args.v.now
