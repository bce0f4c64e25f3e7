use Rattle.std.proofs.Common.{◌≤◌, All, take}
use Rattle.run_watch.proofs.code_bytes.longest.Given as goal

abbrev pub invariant-loop-at : goal.invariant-loop-at
invariant-loop-at l = All (λ a. a.length ≤ l.longest) (take l.at-index l.code)
