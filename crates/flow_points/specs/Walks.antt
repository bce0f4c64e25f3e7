-- Walks along the flow, and the points where they end. `start entry` is the point from which each begins.
--
--   point p a                      the point at the address a in the procedure with the entry p
--   start entry                    the point at the entry, in its own procedure
--   successors_of p flow           where a walk goes on from a point of p with this flow
--   most_points                    the limit of points
--   first_half_of to               the point of the same procedure where the first half of a pair stands whose
--                                  second half stands at the point `to`
--   Enters from flow to            a flow goes on from the point `from` to the point `to`, and `from` isn't the
--                                  first half of a pair that ends there; or it is a call of `to`
--   FlowWalk fetches entry to      the walks that end at the point `to`
--   IsPoint image to               some walk of the image ends there
--   IsEntered fetches entry to     it is the start, or the flow of a point enters it
--   HasMoreThan fetches entry n    more than n points are reached
use Rattle.std.specs.Prelude.{◌≡◌, ◌≢◌, ℕ, ◌<◌, List, [], ◌∷◌, length, All, AllPairs, Contains}
use Rattle.elf_image.specs.declared.image.Image.{Image}
use Rattle.flow_points.specs.Flows.{Fetches, HasFlow, fetches_of, prior}
use Rattle.flow_points.specs.declared.code_points.Point.{Point}
use Rattle.flow_points.specs.declared.code_points.Flow.{Flow}
use Rattle.flow_points.specs.declared.code_points.Flow.TheVariants.{Next, Jump, Branch, Call, Return, Halt}

abbrev pub point : ℕ → ℕ → Point
point p a = record { proc_entry = p; address = a }

abbrev pub start : ℕ → Point
start entry = point entry entry

abbrev pub successors_of : ℕ → Flow → List Point
successors_of p (Next next) = point p next ∷ []
successors_of p (Jump target) = point p target ∷ []
successors_of p (Branch next target) = point p next ∷ point p target ∷ []
successors_of p (Call target next) = point target target ∷ point p next ∷ []
successors_of p Return = []
successors_of p Halt = []

abbrev pub most_points : ℕ
most_points = 16384

abbrev pub first_half_of : Point → Point
first_half_of to = point to.proc_entry (prior to.address)

pub data FlowWalk (fetches : Fetches) (entry : ℕ) : Point → Type 0 where
  begin : (to : Point) → to ≡ start entry → FlowWalk fetches entry to
  onward : (from to : Point) (flow : Flow) → FlowWalk fetches entry from → HasFlow fetches from.address flow
      → Contains (successors_of from.proc_entry flow) to → FlowWalk fetches entry to

abbrev pub IsPoint : Image → Point → Type 0
IsPoint image to = FlowWalk (fetches_of image) image.entry to

pub data Enters (from : Point) (flow : Flow) (to : Point) : Type 0 where
  goes_on : Contains (successors_of from.proc_entry flow) to → from ≢ first_half_of to → Enters from flow to
  calls : (target next : ℕ) → flow ≡ Call target next → to ≡ start target → Enters from flow to

pub data IsEntered (fetches : Fetches) (entry : ℕ) (to : Point) : Type 0 where
  at_start : to ≡ start entry → IsEntered fetches entry to
  by_flow : (from : Point) (flow : Flow) → FlowWalk fetches entry from → HasFlow fetches from.address flow
      → Enters from flow to → IsEntered fetches entry to

pub record HasMoreThan (fetches : Fetches) (entry n : ℕ) : Type 0 where
  pub points : List Point
  pub reached : All (FlowWalk fetches entry) points
  pub apart : AllPairs (λ p q. p ≢ q) points
  pub more : n < length points
