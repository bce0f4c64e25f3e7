use Rattle.std.proofs.Common.{◌≤◌, [], sym, arith}
use Rattle.std.proofs.lemmas.List.{get_or_past}
use Rattle.rv_decode.specs.Registers.{name_of_register, register_names}
use Rattle.refusal_lines.proofs.flow_lines.name_of.Goals as goal

pub returns-else-register-lt32 : goal.returns-else-register-lt32
unfolding name_of_register
returns-else-register-lt32 c =
    let past : 32 ≤ c.args.register = omega (arith, c.if-register-lt32.false) in sym (get_or_past register_names c.args.register [] past)
