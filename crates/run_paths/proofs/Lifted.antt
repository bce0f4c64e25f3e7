-- What holds of code with its names and its program.
use Rattle.std.proofs.Common.{◌≡◌, ℕ, false, List, [], ◌∷◌, Contains, Option, inl, inr, ap, sym, ◌∙◌, subst, arith, flat_map, slice_get, ◌<◌, length}
use Rattle.std.specs.Option.{option_map_or}
use Rattle.elf_image.specs.declared.image.Image.{Image}
use Rattle.row_modules.specs.Positions.{has}
use Rattle.flow_points.specs.Flows.{fetches_of}
use Rattle.flow_points.specs.Walks.{point}
use Rattle.flow_points.specs.PointLists.{ArePoints, ArePointsOf, FlowPoints, HasCode, places_of}
use Rattle.flow_points.specs.declared.code_points.CodePoint.{CodePoint}
use Rattle.std.proofs.lemmas.List.Elements.{Contains-append_left, Contains-append_right}
use Rattle.flow_points.proofs.Cited.{Contains-map, cons_cases}
use Rattle.affine_prog.specs.Programs.{entry_of, exit_of}
use Rattle.affine_prog.specs.declared.Edge.{Edge}
use Rattle.affine_lift.specs.Effects.{effect_of}
use Rattle.affine_lift.specs.Lifting.{edges_of, is_slot_of, is_tracked_register, exit_of as exit_node}
use Rattle.affine_lift.proofs.Cited.{has_positions, owner_there, number_small, proc_at, slots_at}
use Rattle.run_paths.specs.Lifts.{Lift, IsLiftOf, effect, node, number, registers, slots}

Contains-flat_map : {X Y : Type 0} (f : X → List Y) (xs : List X) (x : X) (y : Y) → Contains xs x → Contains (f x) y
    → Contains (flat_map f xs) y
Contains-flat_map f [] x y there at = absurd (omega (arith, there.1))
Contains-flat_map f (z ∷ xs) x y there at =
    elim (cons_cases z xs x there) [
      | inl same ↦ Contains-append_left (f z) (flat_map f xs) y (subst (λ w. Contains (f w) y) (sym same) at)
      | inr later ↦ Contains-append_right (f z) (flat_map f xs) y (Contains-flat_map f xs x y later at)
    ]

pub points_have_code : (image : Image) (points : FlowPoints) → ArePointsOf image points → HasCode points
points_have_code image points are =
    record { fetches = fetches_of image; are = subst (λ (e : ℕ). ArePoints (fetches_of image) e points) (sym are.entry_is) are }

module _ (image : Image) (lift : Lift) (is : IsLiftOf image lift) where
  pub has_code : HasCode lift.points
  has_code = points_have_code image lift.points is.points_are

  pub place : (c : CodePoint) → Contains lift.points.points c → Contains (places_of lift.points.points) c.point
  place c there = Contains-map (λ (d : CodePoint). d.point) lift.points.points c there

  pub owned : (c : CodePoint) → Contains lift.points.points c → Contains lift.points.procedures c.point.proc_entry
  owned c there = owner_there lift.points has_code c.point (place c there)

  pub has_register : (k : ℕ) → has (registers lift) k ≡ option_map_or is_tracked_register (slice_get lift.names k) false
  has_register k = ap (λ (s : ℕ). has s k) is.lifted.registers ∙ has_positions is_tracked_register lift.names k

  pub has_slot : (a k : ℕ) → Contains lift.points.procedures a
      → has (slots lift a) k ≡ option_map_or (is_slot_of a) (slice_get lift.names k) false
  has_slot a k there =
      ap (λ (s : ℕ). has s k) (slots_at lift.points lift.names lift.program has_code is.lifted a there) ∙ has_positions (is_slot_of a) lift.names k

  pub entry_is : (a : ℕ) → Contains lift.points.procedures a → entry_of lift.program (number lift a) ≡ node lift (point a a)
  entry_is a there = proc_at lift.points lift.names lift.program has_code is.lifted (λ proc. proc.entry) a there

  pub exit_is : (a : ℕ) → Contains lift.points.procedures a → exit_of lift.program (number lift a) ≡ exit_node lift.points a
  exit_is a there = proc_at lift.points lift.names lift.program has_code is.lifted (λ proc. proc.exit) a there

  pub number_within : (a : ℕ) → Contains lift.points.procedures a → number lift a < length lift.program.procs
  number_within a there = number_small lift.points lift.names lift.program has_code is.lifted a there

  pub edge_there : (c : CodePoint) (e : Edge) → Contains lift.points.points c → Contains (edges_of lift.points (effect lift c) c) e
      → Contains lift.program.edges e
  edge_there c e there at =
      subst (λ (edges : List Edge). Contains edges e) (sym is.lifted.edges)
      (subst (λ (offset : CodePoint → ℕ → Option ℕ).
      Contains (flat_map (λ d. edges_of lift.points (effect_of lift.names d (offset d)) d) lift.points.points) e) (sym is.offset_is)
      (Contains-flat_map (λ d. edges_of lift.points (effect lift d) d) lift.points.points c e there at))
