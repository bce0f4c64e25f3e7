use Rattle.own_reports.proofs.Arrivals.{reaches_rows}
use Rattle.own_reports.proofs.laws.runs_are_where_rows_are.Goals as goal

pub returns : goal.returns
returns c = λ bytes list report certs over. reaches_rows bytes list report certs (c.reports_tell_of_runs.ensures bytes list report certs over)
