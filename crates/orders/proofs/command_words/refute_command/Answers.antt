use Rattle.std.proofs.Common.{ap, ap₂, ◌∙◌}
use Rattle.std.proofs.lemmas.Result.{IfOk-weaker}
use Rattle.clap.specs.Words.{is_simple_and_free, with_rule}
use Rattle.orders.specs.Orders.{refute_command}
use Rattle.orders.proofs.WordsRead.{refute_command_simple}
use Rattle.orders.proofs.command_words.refute_command.Goals as goal

pub returns-clause-app : goal.returns-clause-app
unfolding refute_command
returns-clause-app c = IfOk-weaker c.arg-2.result _ _
    (λ command h. h.shape c.option-2.ensures.local
    ∙ ap₂ with_rule (c.in_ok-command.ensures.shape c.option.ensures.local ∙ ap₂ with_rule c.in_ok-track_command.ensures.app c.option.ensures.rule)
    c.option-2.ensures.rule)
    c.arg-2.ensures

pub returns-clause-simple : goal.returns-clause-simple
returns-clause-simple c =
    IfOk-weaker c.arg-2.result _ _ (λ command h. ap is_simple_and_free h ∙ refute_command_simple c.args.name.now)
    (returns-clause-app c)
