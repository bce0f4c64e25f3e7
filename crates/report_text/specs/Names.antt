-- Tracked names, and which of them are seen in a procedure.
--
--   IsName name                 a register from 1 to 31, or a slot an allowed number of bytes below
--   IsName-prop name            this has one proof at most
--   is_certified r              r is sp, ra or one of s0 to s11, which a callee leaves as they were
--   IsAllowedBelow n            n is a multiple of 8 from 8 to 2048
--   IsNarrowName name           a register from 1 to 31, or a slot of four bytes a number of bytes below that is allowed for these
--   IsNarrowName-prop name      this has one proof at most
--   IsNarrowBelow n             n is a multiple of 4 from 4 to 2048
--   HasText name                the name has a text: a register below 32, or a slot
--   IsSeenIn procedure name     name is a register, or a slot of the procedure
--   IsSeenAt names procedure k  position k is that of a name seen in the procedure
use Rattle.std.specs.Prelude.{◌≡◌, ℕ, ◌<◌, ◌≤◌, ◌%◌, ◌==◌, nat_le, Bool, ◌&&◌, ◌||◌, List, slice_get, IsSomeAnd}
use Rattle.std.proofs.Props.{props}
use Rattle.report_text.specs.declared.names.Name.{Name}
use Rattle.report_text.specs.declared.names.Name.TheVariants.{Register, Slot}

pub record IsAllowedBelow (n : ℕ) : Type 0 where
  pub least : 8 ≤ n
  pub most : n ≤ 2048
  pub multiple : n % 8 ≡ 0

abbrev pub IsName : Name → Type 0
IsName (Register r) = (1 ≤ r) × (r < 32)
IsName (Slot p below) = IsAllowedBelow below

-- it has one proof at most, so that a value can keep it
pub IsName-prop : (name : Name) → IsProp (IsName name)
IsName-prop (Register r) = hlevel props
IsName-prop (Slot p below) = hlevel props

pub record IsNarrowBelow (n : ℕ) : Type 0 where
  pub least : 4 ≤ n
  pub most : n ≤ 2048
  pub multiple : n % 4 ≡ 0

abbrev pub IsNarrowName : Name → Type 0
IsNarrowName (Register r) = (1 ≤ r) × (r < 32)
IsNarrowName (Slot p below) = IsNarrowBelow below

pub IsNarrowName-prop : (name : Name) → IsProp (IsNarrowName name)
IsNarrowName-prop (Register r) = hlevel props
IsNarrowName-prop (Slot p below) = hlevel props

abbrev pub HasText : Name → Type 0
HasText (Register r) = r < 32
HasText (Slot p below) = Unit {0}

abbrev pub is_certified : ℕ → Bool
is_certified r = r == 1 || r == 2 || r == 8 || r == 9 || (nat_le 18 r && nat_le r 27)

abbrev pub IsSeenIn : ℕ → Name → Type 0
IsSeenIn procedure (Register r) = Unit {0}
IsSeenIn procedure (Slot p below) = p ≡ procedure

abbrev pub IsSeenAt : List Name → ℕ → ℕ → Type 0
IsSeenAt names procedure k = IsSomeAnd (slice_get names k) (IsSeenIn procedure)
