use Rattle.std.proofs.Common.{◌≡◌, map, take, ◌==◌}
use Rattle.call_summaries.proofs.returning.short_procs.Given as goal

abbrev pub invariant-loop-proc : goal.invariant-loop-proc
invariant-loop-proc l = l.wanted.items ≡ map (λ proc. proc.entry == proc.exit) (take l.proc-index l.program.procs)
