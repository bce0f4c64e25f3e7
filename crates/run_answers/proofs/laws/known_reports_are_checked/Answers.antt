use Rattle.run_answers.proofs.OwnReports.{known_are_checked, checked_have_verdicts}
use Rattle.run_answers.proofs.laws.known_reports_are_checked.Goals as goal

pub returns-clause-checked : goal.returns-clause-checked
returns-clause-checked c = known_are_checked

pub returns-clause-verdicts : goal.returns-clause-verdicts
returns-clause-verdicts c = checked_have_verdicts
