-- What is written and what stands for the words to come is the whole text.
use Rattle.std.proofs.Common.{◌≡◌, ◌++◌, drop}
use Rattle.report_text.specs.Text.{terms_text}
use Rattle.report_text.proofs.writer.push_terms.Given as goal

abbrev pub invariant-loop-i : goal.invariant-loop-i
invariant-loop-i l =
    l.text.items ++ terms_text l.leads (drop l.i l.names) (drop l.i l.row)
    ≡ l.initial.text.items ++ terms_text l.initial.leads l.names l.row
