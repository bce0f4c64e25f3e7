use Rattle.report_read.proofs.CertsStepped.{cert_stepped}
use Rattle.report_read.proofs.steps.with_cert.Goals as goal

pub returns : goal.returns
returns c number name next = cert_stepped number c.args.draft name c.args.entry c.args.count c.args.cert c.push.new.self next c.in-Ok.ensures.ok
