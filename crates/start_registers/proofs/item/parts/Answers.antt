use Rattle.std.proofs.Common.{lit<}
use Rattle.std.proofs.lemmas.Str.Pattern.{split_parts}
use Rattle.start_registers.proofs.item.parts.Goals as goal

pub returns : goal.returns
returns c = split_parts 61 c.args.item.now c.split_once.result c.split_once.ensures.cases (lit< tt)
