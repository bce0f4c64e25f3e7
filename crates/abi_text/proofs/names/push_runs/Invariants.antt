use Rattle.std.proofs.Common.{◌≡◌, ◌++◌, false, drop}
use Rattle.abi_text.specs.Names.{runs}
use Rattle.abi_text.proofs.names.push_runs.Given as goal

abbrev pub invariant-loop-r : goal.invariant-loop-r
invariant-loop-r l = l.text.items ++ runs l.last l.begun (drop l.r-index l.registers) ≡ l.initial.text.items ++ runs 0 false l.registers
