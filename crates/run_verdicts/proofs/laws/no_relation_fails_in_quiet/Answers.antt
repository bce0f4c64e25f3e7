use Rattle.run_verdicts.proofs.Watched.{no_relation_fails_in}
use Rattle.run_verdicts.proofs.laws.no_relation_fails_in_quiet.Goals as goal

pub returns : goal.returns
returns c = λ image lift report limit seen i s w true_report at quiet.
    no_relation_fails_in image lift report limit seen i s w true_report at quiet
