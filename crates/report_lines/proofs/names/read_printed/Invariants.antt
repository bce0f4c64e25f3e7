use Rattle.std.proofs.Common.{◌≢◌, ℕ, ◌<◌, ◌≤◌}
use Rattle.rv_decode.specs.Registers.{name_of_register}
use Rattle.report_lines.proofs.names.read_printed.Given as goal

abbrev pub invariant-loop-r : goal.invariant-loop-r
invariant-loop-r l = (k : ℕ) → 1 ≤ k → k < l.r → l.text ≢ name_of_register k
