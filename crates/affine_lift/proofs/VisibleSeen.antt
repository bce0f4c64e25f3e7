-- What is visible at the node of a point.
use Rattle.std.proofs.Common.{◌≡◌, ◌∙◌, ◌↔◌, ℕ, true, false, List, slice_get, Option, None, Some, IsTrue, IsSomeAnd, Contains, inl, inr, refl, sym, ap, subst}
use Rattle.std.specs.Option.{option_map_or}
use Rattle.std.proofs.lemmas.Bool.{eqb-true}
use Rattle.row_modules.specs.Positions.{has}
use Rattle.affine_prog.specs.Programs.{owner_of, slots_of, visible_in}
use Rattle.affine_prog.specs.declared.Program.{Program}
use Rattle.flow_points.specs.PointLists.{FlowPoints, HasCode}
use Rattle.flow_points.specs.declared.code_points.CodePoint.{CodePoint}
use Rattle.flow_points.proofs.Cited.{Contains-map, item_there}
use Rattle.frame_offsets.proofs.Walking.{get_some}
use Rattle.report_text.specs.Names.{IsSeenAt, IsSeenIn}
use Rattle.report_text.specs.declared.names.Name.{Name}
use Rattle.report_text.specs.declared.names.Name.TheVariants.{Register, Slot}
use Rattle.affine_lift.specs.declared.width.Width.{Width}
use Rattle.affine_lift.specs.Lifting.{IsLiftedBy, is_slot_of, is_tracked_register, number_of}
use Rattle.affine_lift.proofs.EdgesFormed.{slots_at, visible_sees}
use Rattle.affine_lift.proofs.Nodes.{node_is}
use Rattle.affine_lift.proofs.Owners.{point_owner}
use Rattle.affine_lift.proofs.PositionBits.{has_positions, in_either}
use Rattle.affine_lift.proofs.Procedures.{owner_there}

register_seen : (a : ℕ) (o : Option Name) → option_map_or is_tracked_register o false ≡ true → IsSomeAnd o (IsSeenIn a)
register_seen a None t = cc
register_seen a (Some (Register r)) t = tt
register_seen a (Some (Slot p n)) t = cc

slot_seen : (a : ℕ) (o : Option Name) → option_map_or (is_slot_of a) o false ≡ true → IsSomeAnd o (IsSeenIn a)
slot_seen a None t = cc
slot_seen a (Some (Register r)) t = cc
slot_seen a (Some (Slot p n)) t = eqb-true p a t

pub visible_seen : {w : Width} (points : FlowPoints) (names : List Name) (program : Program) (u : ℕ) (code : CodePoint) (k : ℕ) → HasCode points
    → IsLiftedBy w points names program → slice_get points.points u ≡ Some code
    → IsTrue (has (visible_in program (owner_of program u)) k) ↔ IsSeenAt names code.point.proc_entry k
visible_seen points names program u code k has_code is at =
    let a = code.point.proc_entry in
    let place = Contains-map (λ (c : CodePoint). c.point) points.points code (item_there points.points u code at) in
    let own = owner_there points has_code code.point place in
    let node = node_is points u code code.point has_code at refl in
    let owner = ap (owner_of program) (sym node) ∙ point_owner points names program has_code is code.point place in
    subst (λ (q : ℕ). IsTrue (has (visible_in program q) k) ↔ IsSeenAt names code.point.proc_entry k) (sym owner)
    (there own, back own)
  where
    there : Contains points.procedures code.point.proc_entry → IsTrue (has (visible_in program (number_of points code.point.proc_entry)) k)
        → IsSeenAt names code.point.proc_entry k
    there own t =
        elim (in_either program.registers (slots_of program (number_of points code.point.proc_entry)) k t) [
          | inl s ↦ register_seen code.point.proc_entry (slice_get names k) (sym (has_positions is_tracked_register names k) ∙ (rw is.registers at s))
          | inr s ↦
              slot_seen code.point.proc_entry (slice_get names k)
              (sym (has_positions (is_slot_of code.point.proc_entry) names k) ∙ (rw (slots_at points names program has_code is code.point.proc_entry own) at s))
        ]

    back : Contains points.procedures code.point.proc_entry → IsSeenAt names code.point.proc_entry k
        → IsTrue (has (visible_in program (number_of points code.point.proc_entry)) k)
    back own seen =
        let found = get_some (slice_get names k) (IsSeenIn code.point.proc_entry) seen in
        visible_sees points names program has_code is code.point.proc_entry own k found.0 found.1 found.2
