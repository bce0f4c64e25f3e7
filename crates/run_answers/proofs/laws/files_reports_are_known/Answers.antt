use Rattle.run_answers.proofs.FilesReports.{files_are_known}
use Rattle.run_answers.proofs.laws.files_reports_are_known.Goals as goal

pub returns : goal.returns
returns c = files_are_known
