-- How far sp goes down in a procedure.
--
--   bytes_below v            how far below its word at the entry sp is; 0 where it isn't known to be below
--   is_by_sp v               sp is known by its word at the entry
--   Depth                    the greatest depth, and whether sp is known at each point
--   deeper v depth           it, with one more value of sp
--   depth_over p depth points
--                            the depth over the points of p, this one at least
--   no_depth, depth_of p points
--                            none; and the depth over the points of p
--   level point, levels_of points
--                            the procedure and the value of sp at a point, and at some points
--   depth_by p depth levels  the depth over those levels that are of p, this one at least
use Rattle.std.specs.Prelude.{ℕ, ◌-◌, ◌^◌, ◌==◌, nat_le, nat_lt, ◌&&◌, Bool, true, false, List, [], ◌∷◌, if◌then◌else◌}
use Rattle.entry_values.specs.declared.values.Value.{Value}
use Rattle.entry_values.specs.declared.values.Value.TheVariants.{Is, Any}
use Rattle.entry_values.specs.States.{value_at}
use Rattle.entry_tables.specs.declared.rows.Point.{Point}
use Rattle.abi_verdicts.specs.declared.depth.Depth.{Depth}
use Rattle.abi_verdicts.specs.declared.depth.Level.{Level}

abbrev pub is_by_sp : Value → Bool
is_by_sp (Is b k) = b == 2
is_by_sp (Any a kind) = false

abbrev pub bytes_below : Value → ℕ
bytes_below (Is b k) = if b == 2 && nat_le (2 ^ 63) k then 2 ^ 64 - k else 0
bytes_below (Any a kind) = 0

abbrev pub deeper : Value → Depth → Depth
deeper v depths = record {
  bytes = if nat_lt depths.bytes (bytes_below v) then bytes_below v else depths.bytes;
  known = depths.known && is_by_sp v;
}

abbrev pub depth_over : ℕ → Depth → List Point → Depth
depth_over p depths [] = depths
depth_over p depths (point ∷ rest) =
    depth_over p (if point.procedure == p then deeper (value_at point.state 2) depths else depths) rest

abbrev pub no_depth : Depth
no_depth = record { bytes = 0; known = true }

abbrev pub depth_of : ℕ → List Point → Depth
depth_of p points = depth_over p no_depth points

abbrev pub level : Point → Level
level point = record { procedure = point.procedure; sp = value_at point.state 2 }

abbrev pub levels_of : List Point → List Level
levels_of [] = []
levels_of (point ∷ rest) = level point ∷ levels_of rest

abbrev pub depth_by : ℕ → Depth → List Level → Depth
depth_by p depths [] = depths
depth_by p depths (one ∷ rest) = depth_by p (if one.procedure == p then deeper one.sp depths else depths) rest
