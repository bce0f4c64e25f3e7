use Rattle.std.proofs.Common.{◌≡◌, replicate, true}
use Rattle.call_summaries.proofs.returning.all_procs.Given as goal

abbrev pub invariant-loop : goal.invariant-loop
invariant-loop l = l.wanted.items ≡ replicate l.counter true
