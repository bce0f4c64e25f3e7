use Rattle.std.proofs.Common.{◌≡◌, None, option_map, refl, sym, ap, ◌∙◌}
use Rattle.call_ends.specs.Calls.{answered}
use Rattle.orders.specs.Orders.{texts_of}
use Rattle.orders.specs.Checks.{check_of, held_check}
use Rattle.abi_call.proofs.Usage.{usage_told, memory_told}
use Rattle.abi_call.proofs.calls.abi_main.Goals as goal

pub returns-in-Ok-None-clause-carried_out : goal.returns-in-Ok-None-clause-carried_out
returns-in-Ok-None-clause-carried_out g c =
    let none : None ≡ check_of (texts_of c.args.words.now) = ap (option_map held_check) (sym c.in-Ok-None.field-0-is) ∙ c.in-Ok-None.ensures in
    usage_told _ _ _ none (answered _ 2 _ (record { status_is = refl; text_is = refl }) c.say_usage.ensures.said)

pub returns-in-Err-clause-carried_out : goal.returns-in-Err-clause-carried_out
returns-in-Err-clause-carried_out g c = memory_told (check_of (texts_of c.args.words.now)) _ _ c.say_reply.ensures.said
