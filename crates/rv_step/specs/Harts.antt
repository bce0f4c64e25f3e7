-- The machine of the ISA, a hart with its memory: RISC-V Unprivileged ISA, "Programmers' Model for Base
-- Integer ISA" and "Memory". It knows nothing of what code means to the analysis.
--
--   Hart               pc; the registers x0 to x31; memory, which maps addresses to bytes; the ranges of
--                      addresses that are executable; and the unit, 2 or 4, whose multiples are the
--                      addresses of instructions
--   x m r              the word in register r
--   IsHart m           32 registers, each a word, x0 zero; a pc and bytes in range; a unit that is 2 or 4
--   fetched m          the word and the length that are fetched at pc
--   IsSame m n         both machines have the same pc, registers, code and unit, and the same byte at each
--                      address
use Rattle.std.specs.Prelude.{◌≡◌, ◌⊎◌, ℕ, ◌<◌, ◌^◌, List, length, slice_index, All, Option}
use Rattle.elf_image.specs.Fetches.{fetch}
use Rattle.elf_image.specs.declared.range.Range.{Range}
use Rattle.elf_image.specs.declared.fetched.Fetched.{Fetched}

pub record Hart : Type 0 where
  pub pc : ℕ
  pub registers : List ℕ
  pub memory : ℕ → ℕ
  pub code : List Range
  pub unit : ℕ

abbrev pub x : Hart → ℕ → ℕ
x m r = slice_index m.registers r

pub record IsHart (m : Hart) : Type 0 where
  pub pc : m.pc < 2 ^ 64
  pub registers : length m.registers ≡ 32
  pub words : All (λ w. w < 2 ^ 64) m.registers
  pub zero_is : x m 0 ≡ 0
  pub bytes : (a : ℕ) → a < 2 ^ 64 → m.memory a < 2 ^ 8
  pub units : (m.unit ≡ 2) ⊎ (m.unit ≡ 4)

abbrev pub fetched : Hart → Option Fetched
fetched m = fetch m.unit m.code m.memory m.pc

pub record IsSame (m n : Hart) : Type 0 where
  pub pc : m.pc ≡ n.pc
  pub registers : m.registers ≡ n.registers
  pub memory : (a : ℕ) → a < 2 ^ 64 → m.memory a ≡ n.memory a
  pub code : m.code ≡ n.code
  pub unit : m.unit ≡ n.unit
