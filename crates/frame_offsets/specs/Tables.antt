-- The table of a search for offsets: for each point in turn, what is known of each of the 32 registers. No
-- public contract cites these words.
--
--   known_at table i r         what is known of r at point i
--   offset_known known         the offset that is known, if one is
--   known_moved z known        the same with a number added to its offset
--   lost known                 the same of a register whose offset is taken away: nothing, where the point was met
--   passed source known        what is known behind an instruction of a register with this source, by what is
--                              known before it
--   known_at_entry r           what is known of r at an entry
--   joined a b                 what is known from both
--   weight known, weight_of table   how often it, or the table, may still change
--   Unsettled points c r       two walks to c end with different offsets of r, or one with none
--   IsJustified points c r known   walks to c say what is known
--   AreJustified points table  so it is at each place of the table
--   passed_from table i c r    what the code c of point i leaves in r
--   Knows known other          the first knows the other: it stays as it is where both are joined
--   at_row row r               what a row says of r
--   IsRowJoined old new i row n rose   the first n registers of point i are joined with the row, and nothing else
--                              changed; something did, if rose
--   KnowsRow points table to row   the point `to` knows what the row says of each register
--   IsOpenedAt points table p  the entry of the procedure p knows what is known at entries
--   PassesOn points table i c  each point where a walk goes on from the code c of point i knows what it leaves
--   AreSettled points table    walks say what the table knows; the entries know what is known at entries, and the
--                              points behind each point know what it leaves
use Rattle.std.specs.Prelude.{◌≡◌, ◌≢◌, ℕ, ◌+◌, ◌*◌, ◌<◌, ◌≤◌, ◌==◌, ℤ, Bool, false, List, length, All, Option, None, Some, slice_get, slice_index_or, sum_by, if◌then◌else◌}
use Rattle.flow_points.specs.Flows.{plus}
use Rattle.flow_points.specs.Walks.{point}
use Rattle.flow_points.specs.PointLists.{FlowPoints}
use Rattle.flow_points.specs.declared.code_points.Point.{Point}
use Rattle.flow_points.specs.declared.code_points.CodePoint.{CodePoint}
use Rattle.frame_offsets.specs.Frames.{FrameWalk, goes_on, offsets_after, source_of}
use Rattle.frame_offsets.specs.declared.known.Known.{Known}
use Rattle.frame_offsets.specs.declared.known.Known.TheVariants.{Unmet, Offset, Nothing}

abbrev pub known_at : List Known → ℕ → ℕ → Known
known_at table i r = slice_index_or table (32 * i + r) Unmet

abbrev pub offset_known : Known → Option ℕ
offset_known (Offset o) = Some o
offset_known _ = None

abbrev pub known_moved : ℤ → Known → Known
known_moved z (Offset o) = Offset (plus o z)
known_moved z s = s

abbrev pub lost : Known → Known
lost Unmet = Unmet
lost _ = Nothing

abbrev pub passed : Option (ℕ × ℤ) → (ℕ → Known) → Known
passed None known = lost (known 0)
passed (Some source) known = known_moved source.1 (known source.0)

abbrev pub known_at_entry : ℕ → Known
known_at_entry r = if r == 2 then Offset 0 else Nothing

abbrev pub joined : Known → Known → Known
joined Unmet s = s
joined s Unmet = s
joined (Offset m) (Offset n) = if m == n then Offset m else Nothing
joined _ _ = Nothing

abbrev pub weight : Known → ℕ
weight Unmet = 2
weight (Offset o) = 1
weight Nothing = 0

abbrev pub weight_of : List Known → ℕ
weight_of table = sum_by weight table

pub data Unsettled (points : List CodePoint) (c : CodePoint) (r : ℕ) : Type 0 where
  one : (walk : List CodePoint) → FrameWalk points c.point.proc_entry walk c → offsets_after walk r ≡ None
      → Unsettled points c r
  two : (v w : List CodePoint) (m n : ℕ) → FrameWalk points c.point.proc_entry v c
      → FrameWalk points c.point.proc_entry w c → offsets_after v r ≡ Some m → offsets_after w r ≡ Some n → m ≢ n
      → Unsettled points c r

abbrev pub IsJustified : List CodePoint → CodePoint → ℕ → Known → Type 0
IsJustified points c r Unmet = Unit {0}
IsJustified points c r (Offset o) =
    (walk : List CodePoint) × FrameWalk points c.point.proc_entry walk c × (offsets_after walk r ≡ Some o)
IsJustified points c r Nothing = Unsettled points c r

pub record AreJustified (points : List CodePoint) (table : List Known) : Type 0 where
  pub size : length table ≡ 32 * length points
  pub each : (i : ℕ) (c : CodePoint) (r : ℕ) → slice_get points i ≡ Some c → r < 32
      → IsJustified points c r (known_at table i r)

abbrev pub passed_from : List Known → ℕ → CodePoint → ℕ → Known
passed_from table i c r = passed (source_of c.instr c.flow r) (known_at table i)

abbrev pub Knows : Known → Known → Type 0
Knows known other = joined known other ≡ known

abbrev pub at_row : List Known → ℕ → Known
at_row row r = slice_index_or row r Unmet

pub record IsRowJoined (old new : List Known) (i : ℕ) (row : ℕ → Known) (n : ℕ) (rose : Bool) : Type 0 where
  pub size : length new ≡ length old
  pub here : (r : ℕ) → r < n → known_at new i r ≡ joined (known_at old i r) (row r)
  pub rest : (j r : ℕ) → r < 32 → (j ≡ i → n ≤ r) → known_at new j r ≡ known_at old j r
  pub fell : weight_of new + (if rose then 1 else 0) ≤ weight_of old
  pub still : rose ≡ false → new ≡ old

abbrev pub KnowsRow : List CodePoint → List Known → Point → (ℕ → Known) → Type 0
KnowsRow points table to row =
    (j : ℕ) (d : CodePoint) → slice_get points j ≡ Some d → d.point ≡ to → (r : ℕ) → r < 32
    → Knows (known_at table j r) (row r)

abbrev pub IsOpenedAt : List CodePoint → List Known → ℕ → Type 0
IsOpenedAt points table p = KnowsRow points table (point p p) known_at_entry

abbrev pub PassesOn : List CodePoint → List Known → ℕ → CodePoint → Type 0
PassesOn points table i c =
    All (λ to. KnowsRow points table to (passed_from table i c)) (goes_on c.point.proc_entry c.flow)

pub record AreSettled (points : FlowPoints) (table : List Known) : Type 0 where
  pub justified : AreJustified points.points table
  pub opened : All (IsOpenedAt points.points table) points.procedures
  pub passed_on : (i : ℕ) (c : CodePoint) → slice_get points.points i ≡ Some c → PassesOn points.points table i c
