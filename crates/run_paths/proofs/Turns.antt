-- Where a step goes, by its instruction.
use Rattle.std.proofs.Common.{◌≡◌, ℕ, ◌%◌, ◌^◌, ◌<◌, ◌⊎◌, ℤ, pos, ◌+ℤ◌, Bool, true, false, [], ◌∷◌, ◌++◌, Contains, Option, None, Some, Result, Ok, Err, inl, inr, refl, ap, sym, ◌∙◌, arith, subst, if◌then◌else◌, ◌==◌, ◌&&◌, ◌||◌}
use Rattle.std.specs.Ordering.{int_eq}
use Rattle.std.proofs.lemmas.Bool.{eqb-true}
use Rattle.std.proofs.lemmas.Bool.Decides.{Decides-int_eq}
use Rattle.rv_decode.specs.Instructions.{IsWellFormed}
use Rattle.rv_instr.specs.declared.Instr.{Instr}
use Rattle.rv_instr.specs.declared.Instr.TheVariants.{Lui, Auipc, Jal, Jalr, Branch as BranchInstr, Load, Store, Imm, Shift, Reg, Fence, Ecall, Ebreak}
use Rattle.flow_points.specs.Flows.{aligned, base_of, flow_of, indirect, linked, pair_target, plus, prior, upper_offset}
use Rattle.flow_points.specs.Walks.{point}
use Rattle.flow_points.specs.declared.code_points.CodePoint.{CodePoint}
use Rattle.flow_points.specs.declared.code_points.Flow.{Flow}
use Rattle.flow_points.specs.declared.code_points.Flow.TheVariants.{Next, Jump, Branch, Call, Return, Halt}
use Rattle.refusals.specs.declared.flow.FlowRefusal.{FlowRefusal}
use Rattle.refusals.specs.declared.flow.FlowRefusal.TheVariants.{IndirectJump, MisalignedTarget, OddLink}
use Rattle.flow_points.proofs.Cited.{same_flow}
use Rattle.flow_points.proofs.Lists.{alone, first, second}
use Rattle.frame_offsets.specs.Frames.{goes_on}
use Rattle.rv_step.specs.Harts.{Hart, x}
use Rattle.rv_step.specs.Effects.{written}
use Rattle.rv_step.specs.Results.{is_taken}
use Rattle.rv_step.specs.Steps.{Executes, even}
use Rattle.rv_step.specs.Words as machine
use Rattle.affine_lift.specs.Values.{constant, link_value}
use Rattle.affine_lift.specs.Effects.{register_effect}
use Rattle.run_paths.specs.Lifts.{Lift}
use Rattle.run_paths.proofs.Numbers.{IsShort, sum_word}
use Rattle.run_paths.proofs.EffectsLand.{IsShort-within, effect_by}
use Rattle.run_paths.proofs.States.{AreWords}
use Rattle.run_paths.proofs.Turning.{IsPlain}

abbrev pub KeepsMemory : Hart → Hart → Type 0
KeepsMemory m n = (b : ℕ) → b < 2 ^ 64 → n.memory b ≡ m.memory b

pub data TurnsBy (p : ℕ) (flow : Flow) (after : ℕ) (m n : Hart) : Type 0 where
  stays : IsPlain flow → Contains (goes_on p flow) (point p n.pc) → TurnsBy p flow after m n
  enters : (target : ℕ) → flow ≡ Call target after → n.pc ≡ target → n.registers ≡ written m.registers 1 after → KeepsMemory m n
      → TurnsBy p flow after m n
  ends : flow ≡ Return → n.pc ≡ even (x m 1) → n.registers ≡ m.registers → KeepsMemory m n → TurnsBy p flow after m n

abbrev IsOk : Flow → Result Flow FlowRefusal → Type 0
IsOk flow outcome = (let ok : Result Flow FlowRefusal = Ok flow in ok) ≡ outcome

if_aligned : (unit a target : ℕ) (flow there : Flow) → IsOk flow (aligned unit a target there) → flow ≡ there
if_aligned unit a target flow there e = by (target % unit == 0) e
  where
    by : (b : Bool) → IsOk flow (if b then Ok there else Err (MisalignedTarget a target)) → flow ≡ there
    by true ok = same_flow flow there ok
    by false ok = cc

if_linked : (unit a n rd target : ℕ) (flow : Flow) → IsOk flow (linked unit a n rd target)
    → ((rd ≡ 0) × (flow ≡ Jump target)) ⊎ ((rd ≡ 1) × (flow ≡ Call target n))
if_linked unit a n rd target flow e = by (rd == 0) (rd == 1) refl refl e
  where
    by : (zero_rd one_rd : Bool) → (rd == 0) ≡ zero_rd → (rd == 1) ≡ one_rd
        → IsOk flow (if zero_rd then aligned unit a target (Jump target) else (if one_rd then aligned unit a target (Call target n) else Err (OddLink a rd)))
        → ((rd ≡ 0) × (flow ≡ Jump target)) ⊎ ((rd ≡ 1) × (flow ≡ Call target n))
    by true one_rd z o ok = inl (eqb-true rd 0 z, if_aligned unit a target flow (Jump target) ok)
    by false true z o ok = inr (eqb-true rd 1 o, if_aligned unit a target flow (Call target n) ok)
    by false false z o ok = cc

-- a JALR that is no second half of a pair
record IsReturn (rd rs1 : ℕ) (imm : ℤ) (flow : Flow) : Type 0 where
  pub rd_is : rd ≡ 0
  pub base_is : rs1 ≡ 1
  pub imm_is : imm ≡ pos 0
  pub is : flow ≡ Return

if_indirect : (a rd rs1 : ℕ) (imm : ℤ) (flow : Flow) → IsOk flow (indirect a rd rs1 imm) → IsReturn rd rs1 imm flow
if_indirect a rd rs1 imm flow e = by (rd == 0) (rs1 == 1) (int_eq imm (pos 0)) (rd == 1) refl refl refl e
  where
    by : (zero_rd ra none one_rd : Bool) → (rd == 0) ≡ zero_rd → (rs1 == 1) ≡ ra → int_eq imm (pos 0) ≡ none
        → IsOk flow (if zero_rd && (ra && none) then Ok Return else (if zero_rd || one_rd then Err (IndirectJump a rs1) else Err (OddLink a rd)))
        → IsReturn rd rs1 imm flow
    by true true true one_rd z r i ok = record {
      rd_is = eqb-true rd 0 z;
      base_is = eqb-true rs1 1 r;
      imm_is = (Decides-int_eq imm (pos 0)).0 i;
      is = same_flow flow Return ok;
    }
    by true true false one_rd z r i ok = cc
    by true false none one_rd z r i ok = cc
    by false ra none true z r i ok = cc
    by false ra none false z r i ok = cc

module _ (p a unit after : ℕ) (flow : Flow) (m n : Hart) where
  goes_next : flow ≡ Next after → n.pc ≡ after → TurnsBy p flow after m n
  goes_next is pc =
      stays (subst IsPlain (sym is) tt)
      (subst (λ (f : Flow). Contains (goes_on p f) (point p n.pc)) (sym is)
      (subst (λ (to : ℕ). Contains (point p after ∷ []) (point p to)) (sym pc) (alone (point p after))))

  goes_jump : (target : ℕ) → flow ≡ Jump target → n.pc ≡ target → TurnsBy p flow after m n
  goes_jump target is pc =
      stays (subst IsPlain (sym is) tt)
      (subst (λ (f : Flow). Contains (goes_on p f) (point p n.pc)) (sym is)
      (subst (λ (to : ℕ). Contains (point p target ∷ []) (point p to)) (sym pc) (alone (point p target))))

  goes_branch : (target : ℕ) (taken : Bool) → flow ≡ Branch after target → n.pc ≡ (if taken then target else after) → TurnsBy p flow after m n
  goes_branch target taken is pc =
      stays (subst IsPlain (sym is) tt)
      (subst (λ (f : Flow). Contains (goes_on p f) (point p n.pc)) (sym is)
      (subst (λ (to : ℕ). Contains (point p after ∷ point p target ∷ []) (point p to)) (sym pc) (by taken)))
    where
      by : (t : Bool) → Contains (point p after ∷ point p target ∷ []) (point p (if t then target else after))
      by true = second (point p after) (point p target)
      by false = first (point p after) (point p target)

  links_or_jumps : (rd target : ℕ) → IsOk flow (linked unit a after rd target) → n.pc ≡ target → n.registers ≡ written m.registers rd after → KeepsMemory m n
      → TurnsBy p flow after m n
  links_or_jumps rd target e pc now memory =
      elim (if_linked unit a after rd target flow e) [
        | inl jump ↦ goes_jump target jump.1 pc
        | inr call ↦ enters target call.1 pc (now ∙ ap (λ (r : ℕ). written m.registers r after) call.0) memory
      ]

  -- the machine's own words
  module _ (at : m.pc ≡ a) (small : a < 2 ^ 64) (words : AreWords m.registers) where
    target_word : (off : ℤ) → IsShort off → machine.word (pos m.pc +ℤ off) ≡ plus a off
    target_word off short = ap (λ (pc : ℕ). machine.word (pos pc +ℤ off)) at ∙ sum_word a off small short

    pub turns : (instr : Instr) (upper : Option ℕ) → IsOk flow (flow_of unit a after upper instr) → IsWellFormed instr → Executes instr after m n
        → ((u : ℕ) → upper ≡ Some u → x m (base_of instr) ≡ plus (prior a) (upper_offset u))
        → TurnsBy p flow after m n
    turns (Lui rd imm) upper e formed made half = goes_next (same_flow flow (Next after) e) made.pc
    turns (Auipc rd imm) upper e formed made half = goes_next (same_flow flow (Next after) e) made.pc
    turns (Jal rd off) upper e formed made half =
        links_or_jumps rd (plus a off) e (made.pc ∙ target_word off (IsShort-within (2 ^ 20) off (omega arith) formed.1.0)) made.registers made.memory
    turns (Jalr rd rs1 imm) None e formed made half =
        let is = if_indirect a rd rs1 imm flow e in
        let base : machine.word (pos (x m rs1) +ℤ imm) ≡ x m 1 =
        ap (λ (z : ℤ). machine.word (pos (x m rs1) +ℤ z)) is.imm_is ∙ ap (λ (r : ℕ). machine.word (pos (x m r) +ℤ pos 0)) is.base_is
        ∙ (let one = words.words 1 in let same : machine.word (pos (x m 1) +ℤ pos 0) ≡ x m 1 = omega arith in same) in
        ends is.is (made.pc ∙ ap even base) (made.registers ∙ ap (λ (r : ℕ). written m.registers r after) is.rd_is) made.memory
    turns (Jalr rd rs1 imm) (Some u) e formed made half =
        let sum : machine.word (pos (x m rs1) +ℤ imm) ≡ plus (plus (prior a) (upper_offset u)) imm =
        sum_word (x m rs1) imm (words.words rs1) (IsShort-within (2 ^ 11) imm (omega arith) formed.2) ∙ ap (λ (w : ℕ). plus w imm) (half u refl) in
        links_or_jumps rd (pair_target a u imm) e (made.pc ∙ ap even sum) made.registers made.memory
    turns (BranchInstr op rs1 rs2 off) upper e formed made half =
        goes_branch (plus a off) (is_taken op (x m rs1) (x m rs2)) (if_aligned unit a (plus a off) flow (Branch after (plus a off)) e)
        (made.pc ∙ ap (λ (to : ℕ). if is_taken op (x m rs1) (x m rs2) then to else after) (target_word off (IsShort-within (2 ^ 12) off (omega arith) formed.2.0)))
    turns (Load op rd rs1 imm) upper e formed made half = goes_next (same_flow flow (Next after) e) made.pc
    turns (Store op rs1 rs2 imm) upper e formed made half = goes_next (same_flow flow (Next after) e) made.pc
    turns (Imm op rd rs1 imm) upper e formed made half = goes_next (same_flow flow (Next after) e) made.pc
    turns (Shift op rd rs1 by) upper e formed made half = goes_next (same_flow flow (Next after) e) made.pc
    turns (Reg op rd rs1 rs2) upper e formed made half = goes_next (same_flow flow (Next after) e) made.pc
    turns (Fence rd rs1 imm) upper e formed made half = goes_next (same_flow flow (Next after) e) made.pc
    turns Ecall upper e formed made half = goes_next (same_flow flow (Next after) e) made.pc
    turns Ebreak upper e formed made half = absurd made

-- the link of a call, by its instruction
pub record IsLink (lift : Lift) (c : CodePoint) (instr : Instr) (to after : ℕ) : Type 0 where
  pub behind : to ≡ after
  pub effect_is : effect_by lift c instr ≡ register_effect lift.names (Some (1, constant to)) ++ []

module _ (lift : Lift) (c : CodePoint) (a unit after target to : ℕ) (flow : c.flow ≡ Call target to) where
  not_next : IsOk c.flow (Ok (Next after)) → ⊥
  not_next e = let clash : Next after ≡ Call target to = sym (same_flow c.flow (Next after) e) ∙ flow in cc clash

  linked_call : (rd there : ℕ) → IsOk c.flow (linked unit a after rd there) → (rd ≡ 1) × (to ≡ after)
  linked_call rd there e =
      elim (if_linked unit a after rd there c.flow e) [
        | inl jump ↦ let clash : Jump there ≡ Call target to = sym jump.1 ∙ flow in cc clash
        | inr call ↦ let same : Call there after ≡ Call target to = sym call.1 ∙ flow in (call.0, (cc same))
      ]

  link_is : (rd : ℕ) → (rd ≡ 1) × (to ≡ after)
      → register_effect lift.names (Some (rd, link_value c.flow)) ++ [] ≡ register_effect lift.names (Some (1, constant to)) ++ []
  link_is rd is =
      ap (λ (r : ℕ). register_effect lift.names (Some (r, link_value c.flow)) ++ []) is.0
      ∙ ap (λ (f : Flow). register_effect lift.names (Some (1, link_value f)) ++ []) flow

  pub link_there : (instr : Instr) (upper : Option ℕ) → IsOk c.flow (flow_of unit a after upper instr) → IsLink lift c instr to after
  link_there (Jal rd off) upper e = let is = linked_call rd (plus a off) e in record { behind = is.1; effect_is = link_is rd is }
  link_there (Jalr rd rs1 imm) (Some u) e = let is = linked_call rd (pair_target a u imm) e in record { behind = is.1; effect_is = link_is rd is }
  link_there (Jalr rd rs1 imm) None e = let clash : Return ≡ Call target to = sym (if_indirect a rd rs1 imm c.flow e).is ∙ flow in cc clash
  link_there (BranchInstr op rs1 rs2 off) upper e =
      let clash : Branch after (plus a off) ≡ Call target to = sym (if_aligned unit a (plus a off) c.flow (Branch after (plus a off)) e) ∙ flow in cc clash
  link_there (Lui rd imm) upper e = absurd (not_next e)
  link_there (Auipc rd imm) upper e = absurd (not_next e)
  link_there (Load op rd rs1 imm) upper e = absurd (not_next e)
  link_there (Store op rs1 rs2 imm) upper e = absurd (not_next e)
  link_there (Imm op rd rs1 imm) upper e = absurd (not_next e)
  link_there (Shift op rd rs1 by) upper e = absurd (not_next e)
  link_there (Reg op rd rs1 rs2) upper e = absurd (not_next e)
  link_there (Fence rd rs1 imm) upper e = absurd (not_next e)
  link_there Ecall upper e = absurd (not_next e)
  link_there Ebreak upper e = let clash : Halt ≡ Call target to = sym (same_flow c.flow Halt e) ∙ flow in cc clash
