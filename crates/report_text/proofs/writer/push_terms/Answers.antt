use Rattle.std.proofs.Common.{add-one, append_assoc}
use Rattle.report_text.specs.declared.names.Name.TheVariants.{Register}
use Rattle.report_text.proofs.Terms.{terms_text-drop}
use Rattle.report_text.proofs.writer.push_terms.Goals as goal

pub loop-i-preserved : goal.loop-i-preserved
loop-i-preserved c =
    let step = terms_text-drop c.loop-i.leads c.args.names.now c.args.row.now c.loop-i.i (Register 0) c.loop-i-test.true in
    rw (c.in_ok-push_word.ensures, append_assoc, c.get-word.ensures, add-one, ← step) c.loop-i.invariant
