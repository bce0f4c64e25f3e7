use Rattle.std.proofs.Common.{All, take}
use Rattle.frame_offsets.specs.Tables.{IsOpenedAt}
use Rattle.frame_offsets.specs.Searches.{Grows}
use Rattle.frame_offsets.proofs.settle.open_all.Given as goal

abbrev pub invariant-loop-entry : goal.invariant-loop-entry
invariant-loop-entry l =
    record {
      grows : Grows l.points.points l.fn.table l.fn.changed.keys l.table l.changed.keys;
      opened : All (IsOpenedAt l.points.points l.table) (take l.entry-index l.points.procedures);
    }
