use Rattle.std.proofs.Common.{◌≡◌, ℕ, ◌<◌, if◌then◌else◌, ◌==◌}
use Rattle.map_modules.specs.Matrices.{entry}
use Rattle.map_modules.proofs.calls.keeps.Given as goal

abbrev pub invariant-loop-j : goal.invariant-loop-j
invariant-loop-j l = (k : ℕ) → k < l.j → entry l.m l.r k ≡ (if k == l.r then entry l.m 16 16 else 0)
