-- The instruction of a call, and what it assigns.
use Rattle.std.proofs.Common.{◌≡◌, ℕ, ◌%◌, ℤ, Bool, true, false, [], ◌∷◌, ◌++◌, List, Contains, Option, None, Some, Result, Ok, Err, refl, ap, sym, ◌∙◌, subst, if◌then◌else◌, ◌==◌}
use Rattle.std.specs.Option.{option_map_or}
use Rattle.std.proofs.lemmas.List.Elements.{All-contains}
use Rattle.rv_instr.specs.declared.Instr.{Instr}
use Rattle.rv_instr.specs.declared.Instr.TheVariants.{Lui, Auipc, Jal, Jalr, Branch as BranchInstr, Load, Store, Imm, Shift, Reg, Fence, Ecall, Ebreak}
use Rattle.flow_points.specs.Flows.{Fetches, IsCode, Judged, aligned, flow_of, known, outside, unknown}
use Rattle.flow_points.specs.PointLists.{FlowPoints, HasCode}
use Rattle.flow_points.specs.declared.code_points.CodePoint.{CodePoint}
use Rattle.flow_points.specs.declared.code_points.Flow.{Flow}
use Rattle.flow_points.specs.declared.code_points.Flow.TheVariants.{Next, Branch, Call, Halt}
use Rattle.refusals.specs.declared.flow.FlowRefusal.{FlowRefusal}
use Rattle.refusals.specs.declared.flow.FlowRefusal.TheVariants.{MisalignedTarget}
use Rattle.flow_points.proofs.Cited.{same_flow}
use Rattle.flow_points.proofs.OneOutcome.{one_instr}
use Rattle.report_text.specs.declared.names.Name.{Name}
use Rattle.affine_prog.specs.Assignments.{unknown_count}
use Rattle.affine_lift.specs.declared.width.Width.{Width}
use Rattle.affine_lift.specs.declared.width.Width.TheVariants.{Wide, Narrow}
use Rattle.affine_lift.specs.Values.{assigned, constant, link_value, place_of}
use Rattle.affine_lift.specs.FrameSlots.{access_of, store_of}
use Rattle.affine_lift.specs.Effects.{effect_by, instr_in, register_effect, result_in, slot_effect_by}

pub data IsLink (instr : Instr) : Type 0 where
  by_jal : (rd : ℕ) (off : ℤ) → instr ≡ Jal rd off → IsLink instr
  by_jalr : (rd rs1 : ℕ) (imm : ℤ) → instr ≡ Jalr rd rs1 imm → IsLink instr

abbrev IsCall : ℕ → ℕ → Result Flow FlowRefusal → Type 0
IsCall target to outcome = (let ok : Result Flow FlowRefusal = Ok (Call target to) in ok) ≡ outcome

module _ (target to : ℕ) where
  not_next : (after : ℕ) → IsCall target to (Ok (Next after)) → ⊥
  not_next after e = let clash : Call target to ≡ Next after = same_flow (Call target to) (Next after) e in cc clash

  not_branch : (unit a b after : ℕ) → IsCall target to (aligned unit a b (Branch after b)) → ⊥
  not_branch unit a b after e = by (b % unit == 0) e
    where
      by : (t : Bool) → IsCall target to (if t then Ok (Branch after b) else Err (MisalignedTarget a b)) → ⊥
      by true ok = let clash : Call target to ≡ Branch after b = same_flow (Call target to) (Branch after b) ok in cc clash
      by false ok = cc

  -- what is a call links
  links : (unit a after : ℕ) (upper : Option ℕ) (instr : Instr) → IsCall target to (flow_of unit a after upper instr) → IsLink instr
  links unit a after upper (Jal rd off) e = by_jal rd off refl
  links unit a after upper (Jalr rd rs1 imm) e = by_jalr rd rs1 imm refl
  links unit a after upper (BranchInstr op rs1 rs2 off) e = absurd (not_branch unit a _ after e)
  links unit a after upper (Lui rd imm) e = absurd (not_next after e)
  links unit a after upper (Auipc rd imm) e = absurd (not_next after e)
  links unit a after upper (Load op rd rs1 imm) e = absurd (not_next after e)
  links unit a after upper (Store op rs1 rs2 imm) e = absurd (not_next after e)
  links unit a after upper (Imm op rd rs1 imm) e = absurd (not_next after e)
  links unit a after upper (Shift op rd rs1 by) e = absurd (not_next after e)
  links unit a after upper (Reg op rd rs1 rs2) e = absurd (not_next after e)
  links unit a after upper (Fence rd rs1 imm) e = absurd (not_next after e)
  links unit a after upper Ecall e = absurd (not_next after e)
  links unit a after upper Ebreak e =
      let clash : Call target to ≡ Halt = same_flow (Call target to) Halt e in cc clash

  judged_link : (fetches : Fetches) (c : CodePoint) → IsCode fetches c → Judged fetches c.point.address (Ok (Call target to)) → IsLink c.instr
  judged_link fetches c code (outside none e) = cc
  judged_link fetches c code (unknown at fetched none e) = cc
  judged_link fetches c code (known at instr upper has half e) =
      subst IsLink (one_instr fetches c.point.address at _ instr c.instr has code.instr) (links fetches.unit c.point.address _ upper instr e)

pub call_links : (points : FlowPoints) (c : CodePoint) (target to : ℕ) → HasCode points → Contains points.points c → c.flow ≡ Call target to → IsLink c.instr
call_links points c target to has_code there flow =
    let code = All-contains (IsCode has_code.fetches) points.points c has_code.are.code there in
    judged_link target to has_code.fetches c code (subst (λ (f : Flow). Judged has_code.fetches c.point.address (Ok f)) flow code.flow)

-- a constant is assigned, if anything is
constant_sure : (names : List Name) (n : ℕ) (place : Option ℕ) → unknown_count (option_map_or (λ i. assigned names i (constant n) ∷ []) place [] ++ []) ≡ 0
constant_sure names n None = refl
constant_sure names n (Some i) = refl

link_sure : (names : List Name) (rd target to : ℕ) (flow : Flow) → flow ≡ Call target to → unknown_count (register_effect names (Some (rd, link_value flow)) ++ []) ≡ 0
link_sure names rd target to flow e =
    ap (λ (f : Flow). unknown_count (register_effect names (Some (rd, link_value f)) ++ [])) e ∙ constant_sure names to (place_of names rd)

effect_sure : (w : Width) (names : List Name) (c : CodePoint) (access : Option ℕ) (target to : ℕ) (instr : Instr) → c.flow ≡ Call target to → IsLink instr
    → unknown_count (register_effect names (result_in names c access (instr_in w instr)) ++ slot_effect_by w names c.point.proc_entry (store_of instr access)) ≡ 0
effect_sure w names c access target to instr flow (by_jal rd off is) =
    subst (λ (i : Instr). unknown_count (register_effect names (result_in names c access (instr_in w i)) ++ slot_effect_by w names c.point.proc_entry (store_of i access)) ≡ 0)
    (sym is) (by w)
  where
    by : (v : Width) → unknown_count (register_effect names (result_in names c access (instr_in v (Jal rd off))) ++ slot_effect_by v names c.point.proc_entry (store_of (Jal rd off) access)) ≡ 0
    by Wide = link_sure names rd target to c.flow flow
    by Narrow = link_sure names rd target to c.flow flow
effect_sure w names c access target to instr flow (by_jalr rd rs1 imm is) =
    subst (λ (i : Instr). unknown_count (register_effect names (result_in names c access (instr_in w i)) ++ slot_effect_by w names c.point.proc_entry (store_of i access)) ≡ 0)
    (sym is) (by w)
  where
    by : (v : Width) → unknown_count (register_effect names (result_in names c access (instr_in v (Jalr rd rs1 imm))) ++ slot_effect_by v names c.point.proc_entry (store_of (Jalr rd rs1 imm) access)) ≡ 0
    by Wide = link_sure names rd target to c.flow flow
    by Narrow = link_sure names rd target to c.flow flow

-- a call's assignments have no unknown one
pub call_sure : (w : Width) (points : FlowPoints) (names : List Name) (c : CodePoint) (offset : ℕ → Option ℕ) (target to : ℕ) → HasCode points → Contains points.points c
    → c.flow ≡ Call target to → unknown_count (effect_by w names c offset) ≡ 0
call_sure w points names c offset target to has_code there flow =
    effect_sure w names c (access_of c.instr offset) target to c.instr flow (call_links points c target to has_code there flow)
