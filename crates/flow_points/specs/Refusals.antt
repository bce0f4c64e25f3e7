-- Why code is refused.
--
--   address_of cause                 the address that a cause names
--   number_of cause                  its number, in the order of the causes
--   HasCause fetches entry p cause   the point p is bad for this cause: what is bad at its address, or a second
--                                    half of a pair that is entered other than from its first half
--   IsBad image p                    p is a point of the image and is bad
--   IsFirstCause fetches entry cause some point is bad for it, no bad point has a lower address, and no
--                                    cause of a lower number makes a point with that address bad
--   IsRefusal fetches entry refusal  why the code is refused: more points than the limit, else the first cause
--   IsFlowRefusal image refusal      the same of an image
use Rattle.std.specs.Prelude.{◌≡◌, ℕ, ◌≤◌, Err}
use Rattle.elf_image.specs.declared.image.Image.{Image}
use Rattle.flow_points.specs.Flows.{Fetches, IsSecondHalf, Judged, fetches_of}
use Rattle.flow_points.specs.Walks.{FlowWalk, HasMoreThan, IsEntered, most_points}
use Rattle.flow_points.specs.declared.code_points.Point.{Point}
use Rattle.refusals.specs.declared.flow.FlowRefusal.{FlowRefusal}
use Rattle.refusals.specs.declared.flow.FlowRefusal.TheVariants.{TooManyPoints, OutsideCode, NoInstruction, OddLink, IndirectJump, MisalignedTarget, IntoPair, Memory}

abbrev pub address_of : FlowRefusal → ℕ
address_of (TooManyPoints limit) = 0
address_of (OutsideCode a) = a
address_of (NoInstruction a word) = a
address_of (OddLink a register) = a
address_of (IndirectJump a register) = a
address_of (MisalignedTarget a target) = a
address_of (IntoPair a) = a
address_of Memory = 0

abbrev pub number_of : FlowRefusal → ℕ
number_of (TooManyPoints limit) = 1
number_of (OutsideCode a) = 2
number_of (NoInstruction a word) = 3
number_of (OddLink a register) = 4
number_of (IndirectJump a register) = 5
number_of (MisalignedTarget a target) = 6
number_of (IntoPair a) = 7
number_of Memory = 8

pub data HasCause (fetches : Fetches) (entry : ℕ) (p : Point) (cause : FlowRefusal) : Type 0 where
  there : Judged fetches p.address (Err cause) → HasCause fetches entry p cause
  into_pair : IsEntered fetches entry p → IsSecondHalf fetches p.address → cause ≡ IntoPair p.address
      → HasCause fetches entry p cause

abbrev pub IsBad : Image → Point → Type 0
IsBad image p = FlowWalk (fetches_of image) image.entry p
    × ((cause : FlowRefusal) × HasCause (fetches_of image) image.entry p cause)

pub record IsFirstCause (fetches : Fetches) (entry : ℕ) (cause : FlowRefusal) : Type 0 where
  pub at : Point
  pub reached : FlowWalk fetches entry at
  pub bad : HasCause fetches entry at cause
  pub least_address : (p : Point) (other : FlowRefusal) → FlowWalk fetches entry p → HasCause fetches entry p other
      → address_of cause ≤ address_of other
  pub least_number : (p : Point) (other : FlowRefusal) → FlowWalk fetches entry p → HasCause fetches entry p other
      → address_of other ≡ address_of cause → number_of cause ≤ number_of other

pub data IsRefusal (fetches : Fetches) (entry : ℕ) (refusal : FlowRefusal) : Type 0 where
  too_many : HasMoreThan fetches entry most_points → refusal ≡ TooManyPoints most_points → IsRefusal fetches entry refusal
  bad_point : (HasMoreThan fetches entry most_points → ⊥) → IsFirstCause fetches entry refusal → IsRefusal fetches entry refusal

abbrev pub IsFlowRefusal : Image → FlowRefusal → Type 0
IsFlowRefusal image refusal = IsRefusal (fetches_of image) image.entry refusal
