use Rattle.own_reports.proofs.Apart.{refused_for_memory}
use Rattle.own_reports.proofs.laws.reports_are_unrefused.Goals as goal

pub returns : goal.returns
returns c = λ bytes list report certs refusal over is.
    refused_for_memory c.lists_are_read_in_one_way.ensures.names c.lists_are_read_in_one_way.ensures.refused bytes list report certs
    refusal over is
