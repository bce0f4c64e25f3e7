use Rattle.std.proofs.Common.{◌≡◌, drop}
use Rattle.entry_tables.specs.Settling.{point_at}
use Rattle.abi_text.proofs.places.point_at.Given as goal

abbrev pub invariant-loop-point : goal.invariant-loop-point
invariant-loop-point l = point_at (drop l.point-index l.points) l.p l.a ≡ point_at l.points l.p l.a
