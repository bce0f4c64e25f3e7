use Rattle.own_reports.proofs.Caused.{check_of_code, check_of_run}
use Rattle.own_reports.proofs.laws.own_reports_fail_for_cause.Goals as goal

pub returns-clause-code : goal.returns-clause-code
returns-clause-code c = λ bytes list report certs image points offsets regs limit status text over code are answer.
    check_of_code c.failures_are_caused.ensures bytes list report certs (c.reports_tell_of_runs.ensures bytes list report certs over)
    image points offsets regs limit status text code are answer

pub returns-clause-files : goal.returns-clause-files
returns-clause-files c = λ bytes list report certs regs limit status text over short fits run.
    check_of_run c.failures_are_caused.ensures bytes list report certs (c.reports_tell_of_runs.ensures bytes list report certs over)
    regs limit status text short fits run
