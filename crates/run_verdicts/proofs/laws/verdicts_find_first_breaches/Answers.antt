use Rattle.run_verdicts.proofs.Breaches.{finds_breaches}
use Rattle.run_verdicts.proofs.laws.verdicts_find_first_breaches.Goals as goal

pub returns : goal.returns
returns c = λ image lift scene limit seen run k is steps within.
    finds_breaches image lift scene is limit seen run steps k within
