-- A machine's meaning, by its fields.
--
--   hart_of m    the machine of the ISA
--   made_of m    how many steps it made, at most 2^64 - 1
use Rattle.std.specs.Prelude.{ℕ}
use Rattle.rv_step.specs.Harts.{Hart}
use Rattle.rv_step.specs.Pages.{byte_of}
use Rattle.rv_step.specs.declared.machine.Machine.{Machine}

abbrev pub hart_of : Machine → Hart
hart_of m = record {
  pc = m.pc;
  registers = m.registers;
  memory = byte_of m.memory;
  code = m.code;
  unit = m.unit;
}

abbrev pub made_of : Machine → ℕ
made_of m = m.made
