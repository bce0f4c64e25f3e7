-- The depth over points is that over their levels.
use Rattle.std.proofs.Common.{◌≡◌, ℕ, ◌==◌, List, [], ◌∷◌, refl, sym, ap, ◌∙◌}
use Rattle.std.specs.Prelude.{if◌then◌else◌}
use Rattle.entry_tables.specs.declared.rows.Point.{Point}
use Rattle.entry_values.specs.States.{value_at}
use Rattle.abi_verdicts.specs.declared.depth.Depth.{Depth}
use Rattle.abi_verdicts.specs.declared.depth.Level.{Level}
use Rattle.abi_verdicts.specs.Depths.{deeper, depth_over, depth_of, depth_by, levels_of, no_depth}

by_levels : (p : ℕ) (depths : Depth) (points : List Point) → depth_by p depths (levels_of points) ≡ depth_over p depths points
by_levels p depths [] = refl
by_levels p depths (point ∷ rest) = by_levels p (if point.procedure == p then deeper (value_at point.state 2) depths else depths) rest

pub depth_at : (p : ℕ) (levels : List Level) (depth : Depth) → depth ≡ depth_by p no_depth levels → (points : List Point) → levels ≡ levels_of points
    → depth ≡ depth_of p points
depth_at p levels depth is points same = is ∙ ap (λ (all : List Level). depth_by p no_depth all) same ∙ by_levels p no_depth points
