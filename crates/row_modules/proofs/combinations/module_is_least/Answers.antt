use Rattle.row_modules.proofs.Closure.{module_multiple, module_least}
use Rattle.row_modules.proofs.combinations.module_is_least.Goals as goal

pub returns-clause-multiples : goal.returns-clause-multiples
returns-clause-multiples g c = λ n k v m. module_multiple n g.S.RowSet.member m k v

pub returns-clause-least : goal.returns-clause-least
returns-clause-least g c = λ n m. module_least n g.S.RowSet.member m g.P.RowSet.member
