use Rattle.narrow_solver.proofs.OneAnswer.{one_answer}
use Rattle.narrow_solver.proofs.meaning.narrow_answers_are_one.Goals as goal

pub returns : goal.returns
returns g c = λ n rows others b d r s x y. one_answer n g.S.RowSet.member rows others b d r s x y
