use Rattle.orders.proofs.WordsRead.{no_order}
use Rattle.orders.proofs.commands.order_named.Goals as goal

pub returns-in_default : goal.returns-in_default
returns-in_default c =
    let other = c.in_default in
    no_order c.args.command.now _ other.not-analyse other.not-cert other.not-list other.not-gen other.not-run other.not-upgrade other.not-narrow other.not-refute
