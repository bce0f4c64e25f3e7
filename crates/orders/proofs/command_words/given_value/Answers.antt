use Rattle.std.proofs.Common.{◌∙◌}
use Rattle.clap.specs.Words.{found_of}
use Rattle.clap.proofs.WalkLemmas.{first_value-rows}
use Rattle.orders.specs.OrdersRead.{given_read}
use Rattle.orders.proofs.command_words.given_value.Goals as goal

pub returns : goal.returns
unfolding given_read
returns c = c.get_str.ensures ∙ first_value-rows (found_of c.args.matches.now) c.args.name.now
