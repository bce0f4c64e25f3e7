-- Live slots and instructions in memory.
--
--   Slots            the live slots: those of earlier activations, and those of the last one
--   live slots       all of them, from the first activation on
--   byte_at a k      the address k bytes behind a
--   IsApart a slot   the slot has none of the 8 bytes from the address a on
--   IsOff a c        the instruction has none of the 8 bytes from the address a on
use Rattle.std.specs.Prelude.{◌≡◌, ℕ, ◌+◌, ◌%◌, ◌^◌, ◌<◌, nat_lt, false, List, ◌++◌}
use Rattle.rv_step.specs.Effects.{distance}
use Rattle.run_watch.specs.declared.places.SlotAt.{SlotAt}
use Rattle.run_watch.specs.declared.places.CodeAt.{CodeAt}

pub record Slots : Type 0 where
  pub earlier : List SlotAt
  pub last : List SlotAt

abbrev pub live : Slots → List SlotAt
live slots = slots.earlier ++ slots.last

abbrev pub byte_at : ℕ → ℕ → ℕ
byte_at a k = (a + k) % 2 ^ 64

abbrev pub IsApart : ℕ → SlotAt → Type 0
IsApart a slot = (k : ℕ) → k < 8 → nat_lt (distance slot.address (byte_at a k)) 8 ≡ false

abbrev pub IsOff : ℕ → CodeAt → Type 0
IsOff a c = (k : ℕ) → k < 8 → nat_lt (distance c.address (byte_at a k)) c.length ≡ false
