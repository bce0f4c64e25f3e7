use Rattle.row_modules.proofs.Lists.{spans_more, within_from_generators}
use Rattle.row_modules.proofs.combinations.inclusions.Goals as goal

pub returns-clause-generators : goal.returns-clause-generators
returns-clause-generators g c = λ n. within_from_generators n g.P.RowSet.member g.Q.RowSet.member

pub returns-clause-more : goal.returns-clause-more
returns-clause-more g c = λ n. spans_more n g.P.RowSet.member g.Q.RowSet.member
