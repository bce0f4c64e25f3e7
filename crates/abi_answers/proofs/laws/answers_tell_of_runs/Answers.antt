use Rattle.abi_answers.proofs.Telling.{told_home}
use Rattle.abi_answers.proofs.laws.answers_tell_of_runs.Goals as goal

pub returns : goal.returns
returns c = λ form file image roots rows routines status text is p r telling run i f e.
    told_home c.kept_is_kept.ensures form file image roots rows routines status text is p r telling run i f e
