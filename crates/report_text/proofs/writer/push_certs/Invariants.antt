-- What is written and what stands for the certificates to come is the whole text.
use Rattle.std.proofs.Common.{◌≡◌, ◌++◌, drop}
use Rattle.report_text.specs.Text.{certs_text}
use Rattle.report_text.proofs.writer.push_certs.Given as goal

abbrev pub invariant-loop-cert : goal.invariant-loop-cert
invariant-loop-cert l =
    l.text.items ++ certs_text (drop l.cert-index l.certs) ≡ l.initial.text.items ++ certs_text l.certs
