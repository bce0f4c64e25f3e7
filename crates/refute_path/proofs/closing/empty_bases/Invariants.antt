use Rattle.std.proofs.Common.{◌≡◌, replicate, []}
use Rattle.refute_path.proofs.closing.empty_bases.Given as goal

abbrev pub invariant-loop : goal.invariant-loop
invariant-loop g l = l.bases.items ≡ replicate l.counter []
