use Rattle.narrow_words.proofs.Answered.{answered}
use Rattle.narrow_words.proofs.analysis.narrow_analyse.Goals as goal

pub returns : goal.returns
returns g c = record {
  report = answered c.args.bytes.now c.args.track.now c.in-Ok.accepted.0 c.in-Ok.accepted.1.names c.in-Ok.ensures c.report_of.result c.report_of.ensures.made
      c.report_of.ensures.refusal;
}
