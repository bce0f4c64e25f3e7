use Rattle.report_read.proofs.OneText.{one_telling}
use Rattle.report_read.proofs.laws.tellings_are_one.Goals as goal

pub returns : goal.returns
returns c = one_telling
