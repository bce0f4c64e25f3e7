use Rattle.std.proofs.Common.{◌≡◌, drop}
use Rattle.abi_lines.specs.Lines.{counted}
use Rattle.abi_lines.proofs.writer.counted.Given as goal

abbrev pub invariant-loop-one : goal.invariant-loop-one
invariant-loop-one l = counted l.n l.count (drop l.one-index l.assumed) ≡ counted l.n 0 l.assumed
