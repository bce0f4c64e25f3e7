-- The changes that instructions make to a machine.
--
--   written registers rd value   the registers after value was written to rd; x0 stays 0
--   distance a b                 how far the address b is above a, modulo 2^64
--   stored k a value memory b    the byte at b after the k low bytes of value were written from a on, the
--                                least byte first, modulo 2^64
--   Writes m rd value next n     n is m with value in rd and with next as its pc
--   Stores m k a value next n    n is m with the k low bytes of value from a on and with next as its pc
--   Calls m next n               n is m with next as its pc, any word in a0 and any memory: what an ECALL
--                                does is up to its execution environment
use Rattle.std.specs.Prelude.{◌≡◌, ℕ, ◌+◌, ◌-◌, ◌*◌, ◌/◌, ◌%◌, ◌^◌, ◌<◌, nat_lt, ◌==◌, List, slice_set, if◌then◌else◌}
use Rattle.rv_step.specs.Harts.{Hart}

abbrev pub written : List ℕ → ℕ → ℕ → List ℕ
written registers rd value = if rd == 0 then registers else slice_set registers rd value

abbrev pub distance : ℕ → ℕ → ℕ
distance a b = (b + (2 ^ 64 - a)) % 2 ^ 64

abbrev pub stored : ℕ → ℕ → ℕ → (ℕ → ℕ) → ℕ → ℕ
stored k a value memory b =
    if nat_lt (distance a b) k then value / 2 ^ (8 * distance a b) % 2 ^ 8 else memory b

pub record Writes (m : Hart) (rd value next : ℕ) (n : Hart) : Type 0 where
  pub pc : n.pc ≡ next
  pub registers : n.registers ≡ written m.registers rd value
  pub memory : (b : ℕ) → b < 2 ^ 64 → n.memory b ≡ m.memory b
  pub code : n.code ≡ m.code
  pub unit : n.unit ≡ m.unit

pub record Stores (m : Hart) (k a value next : ℕ) (n : Hart) : Type 0 where
  pub pc : n.pc ≡ next
  pub registers : n.registers ≡ m.registers
  pub memory : (b : ℕ) → b < 2 ^ 64 → n.memory b ≡ stored k a value m.memory b
  pub code : n.code ≡ m.code
  pub unit : n.unit ≡ m.unit

pub record Calls (m : Hart) (next : ℕ) (n : Hart) : Type 0 where
  pub pc : n.pc ≡ next
  pub a0 : ℕ
  pub a0_fits : a0 < 2 ^ 64
  pub registers : n.registers ≡ written m.registers 10 a0
  pub bytes : (b : ℕ) → b < 2 ^ 64 → n.memory b < 2 ^ 8
  pub code : n.code ≡ m.code
  pub unit : n.unit ≡ m.unit
