use Rattle.std.proofs.Common.{ap, ap₂, ◌∙◌}
use Rattle.std.proofs.lemmas.Result.{IfOk-weaker}
use Rattle.clap.specs.Words.{is_simple_and_free, with_rule}
use Rattle.orders.specs.Checks.{check_command}
use Rattle.orders.proofs.WordsRead.{check_command_simple}
use Rattle.orders.proofs.command_words.check_command.Goals as goal

pub returns-clause-app : goal.returns-clause-app
unfolding check_command
returns-clause-app c = IfOk-weaker c.arg-3.result _ _
    (λ command h. h.shape c.flag-2.ensures.local
    ∙ ap₂ with_rule (c.in_ok-command-2.ensures.shape c.flag.ensures.local
    ∙ ap₂ with_rule (c.in_ok-command.ensures.shape c.optional.ensures.local ∙ ap₂ with_rule c.in_ok-file_command.ensures.app c.optional.ensures.rule)
    c.flag.ensures.rule)
    c.flag-2.ensures.rule)
    c.arg-3.ensures

pub returns-clause-simple : goal.returns-clause-simple
returns-clause-simple c =
    IfOk-weaker c.arg-3.result _ _ (λ command h. ap is_simple_and_free h ∙ check_command_simple c.args.name.now)
    (returns-clause-app c)
