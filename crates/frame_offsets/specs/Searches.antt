-- A search with a list of points: each point that isn't on it has passed on what it leaves. No public contract
-- cites these words.
--
--   IsSearch points table changed      walks say what the table knows, and the list has numbers of points
--   Grows points old listed new changed   a search went on from the table `old` and the list `listed`: what is known
--                                      was joined with more, and the point of each change is on the list, where all
--                                      that were listed stay
--   IsRowJustified points to row       walks to the point `to` say what the row says
--   JoinsTo points to row old listed new changed   it went on, and the point `to` knows the row
--   Visits points i old listed new changed   it went on, and the points behind point i know what it left at the start
--   OthersPassOn points table changed  each point that isn't on the list has passed on what it leaves
--   IsUnderWay points table changed   so it is, and the entries know what is known at entries
use Rattle.std.specs.Prelude.{◌≡◌, ℕ, ◌+◌, ◌*◌, ◌<◌, ◌≤◌, List, length, All, Contains, Some, slice_get}
use Rattle.flow_points.specs.PointLists.{FlowPoints}
use Rattle.flow_points.specs.declared.code_points.Point.{Point}
use Rattle.flow_points.specs.declared.code_points.CodePoint.{CodePoint}
use Rattle.frame_offsets.specs.Frames.{goes_on}
use Rattle.frame_offsets.specs.Tables.{AreJustified, IsJustified, IsOpenedAt, Knows, KnowsRow, PassesOn, known_at, passed_from, weight_of}
use Rattle.frame_offsets.specs.declared.known.Known.{Known}

pub record IsSearch (points : List CodePoint) (table : List Known) (changed : List ℕ) : Type 0 where
  pub justified : AreJustified points table
  pub numbers : All (λ i. i < length points) changed

pub record Grows (points : List CodePoint) (old : List Known) (listed : List ℕ) (new : List Known) (changed : List ℕ) : Type 0 where
  pub search : IsSearch points new changed
  pub above : (j r : ℕ) → r < 32 → Knows (known_at new j r) (known_at old j r)
  pub kept : (j r : ℕ) → r < 32 → (Contains changed j → ⊥) → known_at new j r ≡ known_at old j r
  pub stay : (j : ℕ) → Contains listed j → Contains changed j
  pub fell : 2 * weight_of new + length changed ≤ 2 * weight_of old + length listed

abbrev pub IsRowJustified : List CodePoint → Point → (ℕ → Known) → Type 0
IsRowJustified points to row =
    (d : CodePoint) → Contains points d → d.point ≡ to → (r : ℕ) → r < 32 → IsJustified points d r (row r)

pub record JoinsTo (points : List CodePoint) (to : Point) (row : ℕ → Known) (old : List Known) (listed : List ℕ)
    (new : List Known) (changed : List ℕ) : Type 0 where
  pub grows : Grows points old listed new changed
  pub knows : KnowsRow points new to row

pub record Visits (points : List CodePoint) (i : ℕ) (old : List Known) (listed : List ℕ) (new : List Known)
    (changed : List ℕ) : Type 0 where
  pub grows : Grows points old listed new changed
  pub passed_on : (c : CodePoint) → slice_get points i ≡ Some c
      → All (λ to. KnowsRow points new to (passed_from old i c)) (goes_on c.point.proc_entry c.flow)

abbrev pub OthersPassOn : List CodePoint → List Known → List ℕ → Type 0
OthersPassOn points table changed =
    (j : ℕ) (c : CodePoint) → slice_get points j ≡ Some c → (Contains changed j → ⊥) → PassesOn points table j c

pub record IsUnderWay (points : FlowPoints) (table : List Known) (changed : List ℕ) : Type 0 where
  pub search : IsSearch points.points table changed
  pub opened : All (IsOpenedAt points.points table) points.procedures
  pub others : OthersPassOn points.points table changed
