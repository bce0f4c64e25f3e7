use Rattle.std.proofs.Common.{ap, ap₂, ◌∙◌}
use Rattle.std.proofs.lemmas.Result.{IfOk-weaker}
use Rattle.clap.specs.Words.{is_simple_and_free, with_rule}
use Rattle.orders.specs.Orders.{file_command}
use Rattle.orders.proofs.WordsRead.{file_command_simple}
use Rattle.orders.proofs.command_words.file_command.Goals as goal

pub returns-clause-app : goal.returns-clause-app
unfolding file_command
returns-clause-app c = IfOk-weaker c.arg.result _ _
    (λ command h. h.shape c.position.ensures.local ∙ ap₂ with_rule c.bare_command.ensures c.position.ensures.rule) c.arg.ensures

pub returns-clause-simple : goal.returns-clause-simple
returns-clause-simple c =
    IfOk-weaker c.arg.result _ _ (λ command h. ap is_simple_and_free h ∙ file_command_simple c.args.name.now) (returns-clause-app c)
