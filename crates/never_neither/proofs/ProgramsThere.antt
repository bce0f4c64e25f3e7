-- Points and names have a program.
use Rattle.std.proofs.Common.{◌≡◌, ℕ, ◌+◌, ◌<◌, List, length, map, Option, None, Some, slice_get, inl, inr, refl, sym, subst}
use Rattle.std.proofs.lemmas.Option.{slice_get_within}
use Rattle.flow_points.specs.PointLists.{FlowPoints, HasCode}
use Rattle.flow_points.specs.declared.code_points.CodePoint.{CodePoint}
use Rattle.frame_offsets.specs.Frames.{HasOffset, IsOffset}
use Rattle.affine_prog.specs.declared.Program.{Program}
use Rattle.affine_lift.specs.declared.width.Width.TheVariants.{Wide}
use Rattle.affine_lift.specs.Effects.{AreOffsetsAt}
use Rattle.affine_lift.specs.Lifting.{IsLifted, TellsOffsets, edges_along_by, is_tracked_register, node_of, number_of, owners_in, positions_where, proc_of}
use Rattle.affine_lift.proofs.Cited.{node_is, number_at}
use Rattle.report_text.specs.declared.names.Name.{Name}
use Rattle.never_neither.proofs.Deciding.{choose, decide}

module _ (points : List CodePoint) where
  -- a register has an offset at a point, or none
  offset_there : (c : CodePoint) (r : ℕ) → ((o : Option ℕ) → IsOffset points c r o → ⊥) → ⊥
  offset_there c r none =
      decide ((o : ℕ) × HasOffset points c r o) (λ d. elim d [
        | inl found ↦ none (Some found.0) found.1
        | inr never ↦ none None (λ o has. never (o, has))
      ])

  abbrev AreOffsetsOfPoint : ℕ → (ℕ → Option ℕ) → Type 0
  AreOffsetsOfPoint i offset = (c : CodePoint) → slice_get points i ≡ Some c → AreOffsetsAt points c offset

  offsets_at : (i : ℕ) → ((offset : ℕ → Option ℕ) → AreOffsetsOfPoint i offset → ⊥) → ⊥
  offsets_at i none = by (slice_get points i) refl
    where
      by : (o : Option CodePoint) → slice_get points i ≡ o → ⊥
      by None is = none (λ r. None) (λ c at. absurd (cc))
      by (Some c) is =
          choose (IsOffset points c) None 32 (λ r small. offset_there c r)
          (λ offset are. none offset (λ d at. let same : c ≡ d = cc in
          subst (λ (x : CodePoint). AreOffsetsAt points x offset) same are))

module _ (points : FlowPoints) (names : List Name) (has : HasCode points) where
  abbrev offset_in : (ℕ → ℕ → Option ℕ) → CodePoint → ℕ → Option ℕ
  offset_in table c = table (node_of points c.point)

  tells : (table : ℕ → ℕ → Option ℕ) → ((i : ℕ) → i < length points.points → AreOffsetsOfPoint points.points i (table i))
      → TellsOffsets points.points (offset_in table)
  tells table are c there =
      let found = number_at points.points c there in
      let node = node_is points found.0 c c.point has found.1 refl in
      subst (λ (n : ℕ). AreOffsetsAt points.points c (table n)) (sym node)
      (are found.0 (slice_get_within points.points found.0 c found.1) c found.1)

  abbrev program_by : (CodePoint → ℕ → Option ℕ) → Program
  program_by offset = record {
    width = length names;
    registers = positions_where is_tracked_register names;
    procs = map (proc_of points names) points.procedures;
    nodes = length points.points + length points.procedures;
    owners = owners_in points;
    edges = edges_along_by Wide points offset names points.points;
    start = number_of points points.entry;
  }

  pub program_there : ((program : Program) → IsLifted points names program → ⊥) → ⊥
  program_there none =
      choose (AreOffsetsOfPoint points.points) (λ r. None) (length points.points) (λ i within. offsets_at points.points i)
      (λ table are. none (program_by (offset_in table)) (record {
        width = refl;
        registers = refl;
        procs = refl;
        nodes = refl;
        owners = refl;
        start = refl;
        offset = offset_in table;
        offsets_are = tells table are;
        edges = refl;
      }))
