use Rattle.std.proofs.Common.{arith}
use Rattle.start_registers.proofs.Cuts.{no_cut}
use Rattle.start_registers.proofs.ItemsSet.{no_register, no_word}
use Rattle.start_registers.proofs.item.setting_of.Goals as goal

pub returns-in_default-clause-set : goal.returns-in_default-clause-set
returns-in_default-clause-set c = λ r w is.
    no_cut c.args.item.now is.name is.numeral c.in_default.ensures is.item_is

pub returns-in_default-register_named-clause-set : goal.returns-in_default-register_named-clause-set
returns-in_default-register_named-clause-set c =
    let parts = c.in-Some.ensures in
    no_register c.args.item.now c.in-Some.name.now c.in-Some.numeral.now parts.0 parts.1
    c.in_default-register_named.ensures.register

pub returns-in_default-word_of-clause-set : goal.returns-in_default-word_of-clause-set
returns-in_default-word_of-clause-set c =
    let parts = c.in-Some.ensures in
    no_word c.args.item.now c.in-Some.name.now c.in-Some.numeral.now parts.0 parts.1 c.in_default-word_of.ensures

pub returns-clause-set : goal.returns-clause-set
returns-clause-set c =
    let allowed = c.in-Some-register_named.ensures.allowed in
    record {
      name = c.in-Some.name.now;
      numeral = c.in-Some.numeral.now;
      item_is = c.in-Some.ensures.0;
      register = c.in-Some-register_named.ensures.register;
      not_zero = λ e. omega (arith, e, allowed);
      word = c.in-Some-word_of.ensures;
    }
