use Rattle.std.proofs.Common.{◌≡◌, ◌==◌, ◌≤◌, ℕ, cond, length, nat_lt, not, None, Some, position, sym, arith}
use Rattle.std.proofs.lemmas.Bool.Decides.{nat_tests}
use Rattle.std.proofs.lemmas.List.Sums.{prefix_len-le-length}
use Rattle.std.proofs.lemmas.Option.{cond_some}
use Rattle.report_text.specs.Text.{own_count}
use Rattle.report_text.specs.declared.certs.ReportCert.{ReportCert}
use Rattle.report_text.proofs.writer.own_count.Goals as goal

pub returns-in-Some-clause-count : goal.returns-in-Some-clause-count
returns-in-Some-clause-count c =
    let place : position (λ d. not (d.proc_entry == c.args.procedure)) c.args.certs.now ≡ Some c.in-Some.at = cc in
    sym (cond_some _ _ _ place).1

past : (i n : ℕ) → cond (nat_lt i n) (Some i) None ≡ None → n ≤ i
past i n e = grind (arith, nat_tests)

pub returns-in-None-clause-count : goal.returns-in-None-clause-count
returns-in-None-clause-count c =
    let certs = c.args.certs.now in
    let none : position (λ d. not (d.proc_entry == c.args.procedure)) certs ≡ None = cc in
    let most : own_count c.args.procedure certs ≤ length certs = prefix_len-le-length (λ (d : ReportCert). not (not (d.proc_entry == c.args.procedure))) certs in
    let least = past (own_count c.args.procedure certs) (length certs) none in
    omega arith
