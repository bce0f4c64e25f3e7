use Rattle.std.proofs.Common.{ℕ, ◌<◌}
use Rattle.affine_prog.specs.Programs.{OwnsItsEnds}
use Rattle.affine_prog.proofs.check.own_their_ends.Given as goal

abbrev pub invariant-loop-p : goal.invariant-loop-p
invariant-loop-p l = (q : ℕ) → q < l.p → OwnsItsEnds l.program q
