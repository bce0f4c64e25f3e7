use Rattle.row_modules.proofs.UnitRows.{rows_on_are_module, rows_on_span}
use Rattle.row_modules.proofs.Used.{few_used}
use Rattle.row_modules.proofs.positions.rows_on_positions.Goals as goal

pub returns : goal.returns
returns c = record {
  spanned = record { closed = rows_on_are_module; spanned = rows_on_span };
  few = few_used;
}
