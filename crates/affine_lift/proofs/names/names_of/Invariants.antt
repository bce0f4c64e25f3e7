-- The items so far are names.
use Rattle.std.proofs.Common.{All, take}
use Rattle.numeral_read.specs.Lists.{texts_of}
use Rattle.affine_lift.specs.Tracking.{AreNames, IsNameBy, scope_by}
use Rattle.affine_lift.proofs.names.names_of.Given as goal

abbrev pub invariant-loop-i : goal.invariant-loop-i
invariant-loop-i l = record {
  names : AreNames (scope_by l.width l.symbols l.procedures) (take l.i (texts_of l.items)) l.names;
  allowed : All (IsNameBy l.width) l.names;
}
