-- The address that a cause names.
use Rattle.std.proofs.Common.{◌≡◌, ℕ, ◌<◌, ◌%◌, ℤ, pos, Bool, true, false, eqb, ◌&&◌, ◌||◌, if◌then◌else◌, Option, None, Some, Result, Ok, Err, refl, sym, ap, subst, arith}
use Rattle.std.specs.Ordering.{int_eq}
use Rattle.rv_instr.specs.declared.Instr.{Instr}
use Rattle.rv_instr.specs.declared.Instr.TheVariants.{Jal, Jalr, Branch as BranchInstr}
use Rattle.flow_points.specs.Flows.{Fetches, Judged, aligned, flow_of, indirect, known, linked, next, outside, pair_target, plus, unknown}
use Rattle.flow_points.specs.Refusals.{HasCause, into_pair, number_of, address_of, there}
use Rattle.flow_points.specs.declared.code_points.Flow.{Flow}
use Rattle.flow_points.specs.declared.code_points.Flow.TheVariants.{Branch, Call, Jump, Return}
use Rattle.flow_points.specs.declared.code_points.Point.{Point}
use Rattle.refusals.specs.declared.flow.FlowRefusal.{FlowRefusal}
use Rattle.refusals.specs.declared.flow.FlowRefusal.TheVariants.{IndirectJump, MisalignedTarget, NoInstruction, OddLink, OutsideCode}

-- a cause that names this address and comes before the last one
pub record IsNamed (a : ℕ) (c : FlowRefusal) : Type 0 where
  pub place : address_of c ≡ a
  pub number : number_of c < 7

abbrev pub Outcome : Type 0
Outcome = Result Flow FlowRefusal

named : (a : ℕ) (b c : FlowRefusal) → IsNamed a b → (let x : Outcome = Err b in x ≡ Err c) → IsNamed a c
named a b c h e = let same : b ≡ c = cc in subst (IsNamed a) same h

never : {P : Type 0} (f : Flow) (c : FlowRefusal) → (let x : Outcome = Ok f in x ≡ Err c) → P
never f c e = cc

aligned_named : (unit a t : ℕ) (f : Flow) (c : FlowRefusal) → aligned unit a t f ≡ Err c → IsNamed a c
aligned_named unit a t f c e = by (eqb (t % unit) 0) e
  where
    by : (b : Bool) → (if b then Ok f else Err (MisalignedTarget a t)) ≡ Err c → IsNamed a c
    by true d = never f c d
    by false d = named a (MisalignedTarget a t) c (record { place = refl; number = omega arith }) d

linked_named : (unit a n rd t : ℕ) (c : FlowRefusal) → linked unit a n rd t ≡ Err c → IsNamed a c
linked_named unit a n rd t c e = by (eqb rd 0) (eqb rd 1) e
  where
    by : (b d : Bool) → (if b then aligned unit a t (Jump t) else (if d then aligned unit a t (Call t n) else Err (OddLink a rd))) ≡ Err c
        → IsNamed a c
    by true d h = aligned_named unit a t (Jump t) c h
    by false true h = aligned_named unit a t (Call t n) c h
    by false false h = named a (OddLink a rd) c (record { place = refl; number = omega arith }) h

indirect_named : (a rd rs1 : ℕ) (imm : ℤ) (c : FlowRefusal) → indirect a rd rs1 imm ≡ Err c → IsNamed a c
indirect_named a rd rs1 imm c e = by (eqb rd 0 && (eqb rs1 1 && int_eq imm (pos 0))) (eqb rd 0 || eqb rd 1) e
  where
    by : (b d : Bool) → (if b then Ok Return else (if d then Err (IndirectJump a rs1) else Err (OddLink a rd))) ≡ Err c → IsNamed a c
    by true d h = never Return c h
    by false true h = named a (IndirectJump a rs1) c (record { place = refl; number = omega arith }) h
    by false false h = named a (OddLink a rd) c (record { place = refl; number = omega arith }) h

flow_named : (unit a n : ℕ) (upper : Option ℕ) (i : Instr) (c : FlowRefusal) → flow_of unit a n upper i ≡ Err c → IsNamed a c
flow_named unit a n upper (Jal rd off) c e = linked_named unit a n rd (plus a off) c e
flow_named unit a n upper (BranchInstr op rs1 rs2 off) c e = aligned_named unit a (plus a off) (Branch n (plus a off)) c e
flow_named unit a n (Some upper) (Jalr rd rs1 imm) c e = linked_named unit a n rd (pair_target a upper imm) c e
flow_named unit a n None (Jalr rd rs1 imm) c e = indirect_named a rd rs1 imm c e
flow_named unit a n upper i c e = never _ c e

pub judged_named : (fetches : Fetches) (a : ℕ) (c : FlowRefusal) → Judged fetches a (Err c) → IsNamed a c
judged_named fetches a c (outside f e) = named a (OutsideCode a) c (record { place = refl; number = omega arith }) (sym e)
judged_named fetches a c (unknown at f none e) = named a (NoInstruction a at.word) c (record { place = refl; number = omega arith }) (sym e)
judged_named fetches a c (known at i upper has h e) = flow_named fetches.unit a (next a at.length) upper i c (sym e)

-- a cause names the address of its point
pub caused_at : (fetches : Fetches) (entry : ℕ) (p : Point) (r : FlowRefusal) → HasCause fetches entry p r → p.address ≡ address_of r
caused_at fetches entry p r (there j) = let here = judged_named fetches p.address r j in sym here.place
caused_at fetches entry p r (into_pair entered half e) = sym (ap address_of e)
