use Rattle.std.proofs.Common.{◌≡◌, ◌<◌, ℕ, length}
use Rattle.frame_offsets.specs.Tables.{at_row, passed_from}
use Rattle.frame_offsets.proofs.rows.row_behind.Given as goal

abbrev pub invariant-loop-register : goal.invariant-loop-register
invariant-loop-register l =
    record {
      size : length l.row ≡ 32;
      passed : (r : ℕ) → r < l.register → at_row l.row r ≡ passed_from l.table l.i l.code r;
    }
