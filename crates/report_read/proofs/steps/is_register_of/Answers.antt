use Rattle.std.proofs.Common.{rules}
use Rattle.std.proofs.lemmas.List.{take_all}
use Rattle.report_text.specs.declared.names.Name.TheVariants.{Register}
use Rattle.report_read.proofs.Registers.{register_here, no_register_more}
use Rattle.report_read.proofs.steps.is_register_of.Goals as goal

pub returns-then-is_register : goal.returns-then-is_register
returns-then-is_register c = (
  λ h. register_here c.args.names.now c.loop-name.name-index (Register 0) c.args.text.now c.loop-name-test.true (c.is_register.ensures.0 (search rules)),
  λ h. search rules,
)

pub loop-name-preserved : goal.loop-name-preserved
loop-name-preserved c =
    no_register_more c.args.names.now c.loop-name.name-index (Register 0) c.args.text.now c.loop-name-test.true c.loop-name.invariant
    (λ h. let k = c.is_register.ensures.1 h in search rules)

pub returns : goal.returns
returns c = (λ h. absurd (search rules), λ h. absurd (c.loop-name.invariant (rw (take_all c.loop-name.name-index c.args.names.now c.loop-name-test.false) h)))
