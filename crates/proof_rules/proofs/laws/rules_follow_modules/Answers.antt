use Rattle.proof_rules.proofs.Following.{rules_follow}
use Rattle.proof_rules.proofs.laws.rules_follow_modules.Goals as goal

pub returns : goal.returns
returns c = λ small levels others entries states formed level_rows other_rows entry_rows state_rows maps_alike states_alike.
    rules_follow small formed levels others entries states level_rows other_rows entry_rows state_rows maps_alike states_alike
