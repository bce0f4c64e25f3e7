-- A flush that failed appended nothing.
use Rattle.std.specs.Io.KnownBytes.{Keeps}
use Rattle.outside.proofs.writer.flush_once.Given as goal

abbrev pub invariant-loop : goal.invariant-loop
invariant-loop g l = Keeps (g.W.Write.contents l.initial.out) (g.W.Write.contents l.out)
