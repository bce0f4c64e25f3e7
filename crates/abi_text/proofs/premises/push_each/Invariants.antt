use Rattle.std.proofs.Common.{◌≡◌, ◌++◌, drop}
use Rattle.abi_text.specs.Premises.{each_line}
use Rattle.abi_text.proofs.premises.push_each.Given as goal

abbrev pub invariant-loop-premise : goal.invariant-loop-premise
invariant-loop-premise l =
    l.text.items ++ each_line l.why (drop l.premise-index l.premises) l.assumed ≡ l.initial.text.items ++ each_line l.why l.premises l.assumed
