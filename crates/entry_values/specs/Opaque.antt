-- Instructions beyond RV64IM, of which only this is known: one register may change, and some bytes may. It is more than such an
-- instruction does, as is what the machine's table says of ECALL.
--
--   Outside w a memory n       no byte but w from a on changed
--   OpaqueStep row next m n    n is m but for these, with next as its pc
--   blurred_state pc w at s    the state where w bytes from the address `at` on may have changed
--   opaque_state row pc s      the state behind it
use Rattle.std.specs.Prelude.{◌≡◌, ℕ, ◌^◌, ◌<◌, ◌≤◌, ◌==◌, pos, ◌+ℤ◌, if◌then◌else◌}
use Rattle.rv_step.specs.Words.{word}
use Rattle.rv_step.specs.Harts.{Hart, IsHart, x}
use Rattle.rv_step.specs.Effects.{distance, written}
use Rattle.entry_values.specs.declared.values.Value.{Value}
use Rattle.opaque_words.specs.declared.rows.Row.{Row}
use Rattle.entry_values.specs.declared.values.Value.TheVariants.{Is, Any}
use Rattle.entry_values.specs.declared.values.Kind.TheVariants.{Opaque}
use Rattle.entry_values.specs.Values.{plus}
use Rattle.entry_values.specs.declared.states.State.{State}
use Rattle.entry_values.specs.States.{value_at, put}
use Rattle.entry_values.specs.Transfers.{blurred}

abbrev pub Outside : ℕ → ℕ → (ℕ → ℕ) → (ℕ → ℕ) → Type 0
Outside w a memory n = (b : ℕ) → b < 2 ^ 64 → w ≤ distance a b → n b ≡ memory b

pub record OpaqueStep (row : Row) (next : ℕ) (m n : Hart) : Type 0 where
  pub hart : IsHart n
  pub pc : n.pc ≡ next
  pub value : ℕ
  pub registers : n.registers ≡ written m.registers row.rd value
  pub memory : Outside row.width (word (pos (x m row.base) +ℤ row.imm)) m.memory n.memory
  pub code : n.code ≡ m.code
  pub unit : n.unit ≡ m.unit

abbrev pub blurred_state : ℕ → ℕ → Value → State → State
blurred_state pc w (Is b o) s = if b == 2 then record { values = s.values; slots = blurred pc w o s.slots } else s
blurred_state pc w (Any a kind) s = s

abbrev pub opaque_state : Row → ℕ → State → State
opaque_state row pc s = put (blurred_state pc row.width (plus (value_at s row.base) row.imm) s) row.rd (Any pc Opaque)
