use Rattle.own_reports.proofs.Alone.{one_report}
use Rattle.own_reports.proofs.laws.reports_are_one.Goals as goal

pub returns : goal.returns
returns c = λ bytes list report other certs lines over too.
    one_report c.lists_are_read_in_one_way.ensures.names c.lists_are_read_in_one_way.ensures.refused bytes list report other certs lines
    (c.reports_tell_of_runs.ensures bytes list report certs over) over too
