use Rattle.row_modules.proofs.Zeros.{solutions_are_module, vanishes_on_module}
use Rattle.row_modules.proofs.forms.zeros_of_forms.Goals as goal

pub returns : goal.returns
returns g c = record {
  combinations = λ n a rows. vanishes_on_module n g.P.RowSet.member rows a;
  solutions = λ n. solutions_are_module n g.P.RowSet.member;
}
