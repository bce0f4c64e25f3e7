use Rattle.std.proofs.Common.{Some, drop, subst, sym, ◌∙◌}
use Rattle.std.proofs.lemmas.Bool.{false≢true}
use Rattle.report_text.specs.declared.names.Name.TheVariants.{Register}
use Rattle.report_places.specs.Strangers.{FirstIs, IsStrangeName, procedure_of}
use Rattle.report_places.proofs.FirstOnes.{first_here, first_later, first_at_end}
use Rattle.report_places.proofs.strangers.strange_name.Goals as goal

pub returns-then-is_strange_name : goal.returns-then-is_strange_name
returns-then-is_strange_name c =
    c.loop-name.invariant (Some c.procedure_of.result)
    (subst (λ n. FirstIs (IsStrangeName c.args.procedures.now) procedure_of (drop c.loop-name.name-index c.args.names.now) (Some n))
    (sym c.procedure_of.ensures)
    (first_here (IsStrangeName c.args.procedures.now) procedure_of c.args.names.now c.loop-name.name-index (Register 0)
    c.loop-name-test.true (c.is_strange_name.ensures.0 c.if-is_strange_name.true)))

pub loop-name-preserved : goal.loop-name-preserved
loop-name-preserved c = λ found later.
    c.loop-name.invariant found
    (first_later (IsStrangeName c.args.procedures.now) procedure_of c.args.names.now c.loop-name.name-index (Register 0) found
    c.loop-name-test.true (λ h. false≢true (sym c.if-is_strange_name.false ∙ c.is_strange_name.ensures.1 h)) later)

pub returns : goal.returns
returns c =
    c.loop-name.invariant _
    (first_at_end (IsStrangeName c.args.procedures.now) procedure_of c.args.names.now c.loop-name.name-index c.loop-name-test.false)
