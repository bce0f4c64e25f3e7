use Rattle.std.proofs.Common.{lit<}
use Rattle.std.proofs.lemmas.Str.Pattern.{split_once_first}
use Rattle.affine_lift.proofs.NamesRead.{colon_parts}
use Rattle.affine_lift.proofs.names.parts.Goals as goal

pub returns : goal.returns
returns c = colon_parts c.args.item.now c.split_once.result (split_once_first 58 c.args.item.now c.split_once.result c.split_once.ensures.cases (lit< tt))
