use Rattle.std.proofs.Common.{ap, ap₂, ◌∙◌}
use Rattle.std.proofs.lemmas.Result.{IfOk-weaker}
use Rattle.clap.specs.Words.{is_simple_and_free, with_rule}
use Rattle.orders.specs.Orders.{track_command}
use Rattle.orders.proofs.WordsRead.{track_command_simple}
use Rattle.orders.proofs.command_words.track_command.Goals as goal

pub returns-clause-app : goal.returns-clause-app
unfolding track_command
returns-clause-app c = IfOk-weaker c.arg-2.result _ _
    (λ command h. h.shape c.option.ensures.local
    ∙ ap₂ with_rule (c.in_ok-command.ensures.shape c.position.ensures.local ∙ ap₂ with_rule c.bare_command.ensures c.position.ensures.rule)
    c.option.ensures.rule)
    c.arg-2.ensures

pub returns-clause-simple : goal.returns-clause-simple
returns-clause-simple c =
    IfOk-weaker c.arg-2.result _ _ (λ command h. ap is_simple_and_free h ∙ track_command_simple c.args.name.now c.args.over.now)
    (returns-clause-app c)
