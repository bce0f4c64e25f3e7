-- A read that failed consumed nothing.
use Rattle.std.proofs.Common.{◌≡◌, length}
use Rattle.std.specs.Io.KnownBytes.{Keeps}
use Rattle.outside.proofs.reader.read_once.Given as goal

abbrev pub invariant-loop : goal.invariant-loop
invariant-loop g l = record {
  room : length l.into ≡ length l.initial.into;
  kept : Keeps (g.F.Read.remaining l.initial.file) (g.F.Read.remaining l.file);
}
