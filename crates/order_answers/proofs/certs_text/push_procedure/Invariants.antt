-- What is written and what stands for the lines to come is the procedure's text.
use Rattle.std.proofs.Common.{◌≡◌, ◌++◌, drop}
use Rattle.std.specs.List.{flat_map}
use Rattle.order_answers.specs.CertsText.{own_line_text}
use Rattle.order_answers.proofs.certs_text.push_procedure.Given as goal

abbrev pub invariant-loop-line : goal.invariant-loop-line
invariant-loop-line l =
    l.text.items ++ flat_map (own_line_text l.procedure) (drop l.line-index l.certs) ≡ l.initial.text.items ++ flat_map (own_line_text l.procedure) l.certs
