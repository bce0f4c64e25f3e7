use Rattle.map_modules.proofs.Keeping.{keeping_is_linear, keeping_leaves_words}
use Rattle.map_modules.proofs.laws.keeping_is_linear.Goals as goal

pub returns : goal.returns
returns c = record { linear = keeping_is_linear; words = keeping_leaves_words }
