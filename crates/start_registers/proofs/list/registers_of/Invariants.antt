-- These are the registers of the items so far, and those that they name are marked.
use Rattle.std.proofs.Common.{◌≡◌, length, take}
use Rattle.numeral_read.specs.Lists.{texts_of}
use Rattle.start_registers.specs.Settings.{AreRegistersOf}
use Rattle.start_registers.proofs.ListsRead.{IsMarked}
use Rattle.start_registers.proofs.list.registers_of.Given as goal

abbrev pub invariant-loop-item : goal.invariant-loop-item
invariant-loop-item l = record {
  made : AreRegistersOf (take l.item-index (texts_of l.items)) l.regs;
  marked : IsMarked (take l.item-index (texts_of l.items)) l.named;
  named_wide : length l.named ≡ 32;
}
