use Rattle.row_modules.proofs.Closure.{combinations, generator}
use Rattle.row_modules.proofs.combinations.combinations_are_a_module.Goals as goal

pub returns-clause-closed : goal.returns-clause-closed
returns-clause-closed g c = λ n rows. combinations n g.P.RowSet.member rows

pub returns-clause-generators : goal.returns-clause-generators
returns-clause-generators g c = λ n v rows p. generator n g.P.RowSet.member rows v p
