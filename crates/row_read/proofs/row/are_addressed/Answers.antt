use Rattle.std.proofs.Common.{All, subst, arith}
use Rattle.std.proofs.lemmas.List.{take_all}
use Rattle.std.proofs.lemmas.List.Elements.{All-more}
use Rattle.report_lines.specs.NameTexts.{IsAddressed}
use Rattle.report_text.specs.declared.names.Name.TheVariants.{Register}
use Rattle.row_read.proofs.row.are_addressed.Goals as goal

pub loop-name-preserved : goal.loop-name-preserved
loop-name-preserved c =
    All-more IsAddressed c.args.names.now c.loop-name.name-index (Register 0) c.loop-name-test.true c.loop-name.invariant c.is_addressed.ensures

pub returns : goal.returns
returns c =
    subst (All IsAddressed) (take_all c.loop-name.name-index c.args.names.now (omega (arith, c.loop-name-test.false))) c.loop-name.invariant
