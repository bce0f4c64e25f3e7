use Rattle.map_modules.proofs.Outside.{matrices_on_are_module, product_on}
use Rattle.map_modules.proofs.UsedByMatrices.{few_used_by_matrices}
use Rattle.map_modules.proofs.laws.matrices_on_positions.Goals as goal

pub returns : goal.returns
returns c = record {
  closed = matrices_on_are_module;
  products = λ rows middle other columns after before p q. product_on rows columns after before p.in_rows q.in_columns;
  few = few_used_by_matrices;
}
