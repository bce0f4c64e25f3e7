use Rattle.std.proofs.Common.{◌≡◌, false, sym, ◌∙◌, arith}
use Rattle.orders.specs.Orders.{has_zeros}
use Rattle.orders.proofs.CountsRead.{counted, no_count}
use Rattle.orders.proofs.commands.count_of.Goals as goal

pub returns-in_default : goal.returns-in_default
returns-in_default c = no_count c.args.text.now (λ numeral plain small. c.in_default.ensures (numeral, omega arith))

pub returns-then-n-le-MOST_COUNT : goal.returns-then-n-le-MOST_COUNT
returns-then-n-le-MOST_COUNT c =
    let plain : has_zeros c.args.text.now ≡ false = sym c.has_zeros.ensures ∙ c.if-has_zeros.false in
    counted c.args.text.now c.in-Some.n c.in-Some.ensures.0.0 plain c.in-Some.ensures.1 c.if-n-le-MOST_COUNT.true
