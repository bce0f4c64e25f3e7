-- The procedures of a lifted program, and who owns its nodes.
use Rattle.std.proofs.Common.{◌≡◌, ◌∙◌, ℕ, ◌+◌, ◌<◌, List, ◌++◌, length, get_or, map, Contains, sym, ap, arith, length-append}
use Rattle.std.proofs.lemmas.List.{get_or-append-add, get_or_append_left, get_or-map, length-map}
use Rattle.std.proofs.lemmas.Option.{get_or_from_slice_get, slice_get_within}
use Rattle.affine_prog.specs.Programs.{owner_of}
use Rattle.affine_prog.specs.declared.Program.{Program}
use Rattle.affine_prog.specs.declared.Proc.{Proc}
use Rattle.flow_points.specs.PointLists.{FlowPoints, HasCode, entries_of, places_of}
use Rattle.flow_points.specs.declared.code_points.Point.{Point}
use Rattle.flow_points.specs.declared.code_points.CodePoint.{CodePoint}
use Rattle.report_text.specs.declared.names.Name.{Name}
use Rattle.affine_lift.specs.declared.width.Width.{Width}
use Rattle.affine_lift.specs.Lifting.{IsLiftedBy, exit_of, node_of, number_of, proc_of}
use Rattle.affine_lift.proofs.Procedures.{code_there, stands}

module _ {w : Width} (points : FlowPoints) (names : List Name) (program : Program) (has_code : HasCode points)
    (is : IsLiftedBy w points names program) where
  pub procs_long : length program.procs ≡ length points.procedures
  procs_long = ap length is.procs ∙ length-map points.procedures (proc_of points names)

  pub number_small : (a : ℕ) → Contains points.procedures a → number_of points a < length program.procs
  number_small a there =
      let within = slice_get_within points.procedures (number_of points a) a (stands points has_code a there) in
      omega (arith, procs_long, within)

  pub proc_at : (f : Proc → ℕ) (a : ℕ) → Contains points.procedures a → get_or (map f program.procs) (number_of points a) 0 ≡ f (proc_of points names a)
  proc_at f a there =
      let j = number_of points a in
      let at = stands points has_code a there in
      let below = slice_get_within points.procedures j a at in
      let long = length-map points.procedures (proc_of points names) in
      ap (λ (ps : List Proc). get_or (map f ps) j 0) is.procs
      ∙ get_or-map f (map (proc_of points names) points.procedures) j (proc_of points names a) 0 (omega arith)
      ∙ ap f (get_or-map (proc_of points names) points.procedures j a (proc_of points names a) below
      ∙ ap (proc_of points names) (get_or_from_slice_get points.procedures j a a at))

  owner_at : (i a : ℕ) → i < length (entries_of points.points ++ points.procedures) → get_or (entries_of points.points ++ points.procedures) i 0 ≡ a
      → owner_of program i ≡ number_of points a
  owner_at i a below at =
      ap (λ (ns : List ℕ). get_or ns i 0) is.owners
      ∙ get_or-map (number_of points) (entries_of points.points ++ points.procedures) i 0 0 below ∙ ap (number_of points) at

  entries_long : length (entries_of points.points) ≡ length points.points
  entries_long = length-map points.points (λ (c : CodePoint). c.point.proc_entry)

  pub point_below : (q : Point) → Contains (places_of points.points) q → node_of points q < length points.points
  point_below q there = let c = code_there points has_code q there in slice_get_within points.points (node_of points q) c.0 c.1

  pub point_owner : (q : Point) → Contains (places_of points.points) q → owner_of program (node_of points q) ≡ number_of points q.proc_entry
  point_owner q there =
      let c = code_there points has_code q there in
      let below = point_below q there in
      let size = length-append (entries_of points.points) points.procedures in
      owner_at (node_of points q) q.proc_entry (omega (arith, below, size, entries_long))
      (get_or_append_left (entries_of points.points) points.procedures 0 (node_of points q) (omega (arith, below, entries_long))
      ∙ get_or-map (λ (d : CodePoint). d.point.proc_entry) points.points (node_of points q) c.0 0 below
      ∙ ap (λ (d : CodePoint). d.point.proc_entry) (get_or_from_slice_get points.points (node_of points q) c.0 c.0 c.1)
      ∙ ap (λ (r : Point). r.proc_entry) c.2)

  pub exit_owner : (a : ℕ) → Contains points.procedures a → owner_of program (exit_of points a) ≡ number_of points a
  exit_owner a there =
      let at = stands points has_code a there in
      let below = slice_get_within points.procedures (number_of points a) a at in
      let size = length-append (entries_of points.points) points.procedures in
      owner_at (exit_of points a) a (omega (arith, below, size, entries_long))
      (ap (λ (n : ℕ). get_or (entries_of points.points ++ points.procedures) (n + number_of points a) 0) (sym entries_long)
      ∙ get_or-append-add (entries_of points.points) points.procedures (number_of points a) 0
      ∙ get_or_from_slice_get points.procedures (number_of points a) a 0 at)
