use Rattle.std.proofs.Common.{true, false, refl, ◌∙◌, arith}
use Rattle.std.proofs.lemmas.List.{length-set}
use Rattle.start_registers.proofs.Tables.{table_start}
use Rattle.start_registers.proofs.ListsRead.{no_registers, no_setting, set_twice, registers_more, marks_more}
use Rattle.start_registers.proofs.list.registers_of.Goals as goal

pub loop-item-init : goal.loop-item-init
loop-item-init c = record {
  made = no_registers;
  marked = table_start (λ w. true) false;
  named_wide = refl;
}

pub returns-in_default : goal.returns-in_default
returns-in_default c =
    no_setting c.args.items.now c.loop-item.item-index _ c.loop-item-test.true c.in_default.ensures.set

pub returns-then-named-register : goal.returns-then-named-register
returns-then-named-register c =
    let item = c.in-Some in
    set_twice c.args.items.now c.loop-item.item-index _ c.loop-item-test.true item.register item.word item.ensures.set
    c.loop-item.named c.loop-item.invariant.marked item.ensures.within c.if-named-register.true

pub loop-item-preserved : goal.loop-item-preserved
loop-item-preserved c =
    let item = c.in-Some in
    let so_far = c.loop-item.invariant in
    let within = item.ensures.within in
    let named_wide = so_far.named_wide in
    record {
      made =
          registers_more c.args.items.now c.loop-item.item-index _ c.loop-item-test.true item.register item.word item.ensures.set
          c.loop-item.named so_far.marked c.if-named-register.false c.loop-item.regs so_far.made (item.ensures.within);
      marked =
          marks_more c.args.items.now c.loop-item.item-index _ c.loop-item-test.true item.register item.word item.ensures.set
          c.loop-item.named so_far.marked c.if-named-register.false (omega arith);
      named_wide = length-set c.loop-item.named item.register true ∙ named_wide;
    }
