-- What is written and what stands for the procedures to come is the text of all procedures.
use Rattle.std.proofs.Common.{◌≡◌, ◌++◌, drop}
use Rattle.std.specs.List.{flat_map}
use Rattle.order_answers.specs.CertsText.{procedure_text}
use Rattle.order_answers.proofs.certs_text.push_procedures.Given as goal

abbrev pub invariant-loop-procedure : goal.invariant-loop-procedure
invariant-loop-procedure l =
    l.text.items ++ flat_map (procedure_text l.certs) (drop l.procedure-index l.procedures)
    ≡ l.initial.text.items ++ flat_map (procedure_text l.certs) l.procedures
