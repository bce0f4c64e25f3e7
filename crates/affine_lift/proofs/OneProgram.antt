-- Points and names have one program.
use Rattle.std.proofs.Common.{◌≡◌, ◌∙◌, ℕ, suc, ◌<◌, List, [], ◌∷◌, ◌++◌, get_or, flat_map, All, Contains, Option, None, Some, option_map, refl, sym, ap, ap₂, arith}
use Rattle.std.proofs.lemmas.List.Elements.{All-contains_itself}
use Rattle.rv_decode.specs.Instructions.{IsWellFormed}
use Rattle.rv_instr.specs.declared.Instr.{Instr}
use Rattle.rv_instr.specs.declared.Instr.TheVariants.{Lui, Auipc, Jal, Jalr, Branch, Load, Store, Imm, Shift, Reg, Fence, Ecall, Ebreak}
use Rattle.affine_prog.specs.declared.Program.{Program}
use Rattle.affine_prog.specs.declared.Proc.{Proc}
use Rattle.affine_prog.specs.declared.Edge.{Edge}
use Rattle.flow_points.specs.Flows.{plus}
use Rattle.flow_points.specs.PointLists.{FlowPoints, HasCode}
use Rattle.flow_points.specs.declared.code_points.CodePoint.{CodePoint}
use Rattle.frame_offsets.specs.Frames.{FrameWalk, IsOffset}
use Rattle.frame_offsets.proofs.EachWalked.{has_walk}
use Rattle.frame_offsets.proofs.Walking.{well_formed}
use Rattle.report_text.specs.declared.names.Name.{Name}
use Rattle.affine_lift.specs.declared.width.Width.{Width}
use Rattle.affine_lift.specs.declared.width.Width.TheVariants.{Wide}
use Rattle.affine_lift.specs.FrameSlots.{access_of}
use Rattle.affine_lift.specs.Effects.{AreOffsetsAt, effect_at_by, effect_by, effect_of}
use Rattle.affine_lift.specs.Lifting.{IsLiftedBy, edges_of}
use Rattle.affine_lift.proofs.Nodes.{number_at}

one_offset : (points : List CodePoint) (c : CodePoint) (r : ℕ) (x y : Option ℕ)
    → ((walk : List CodePoint) × FrameWalk points c.point.proc_entry walk c) → IsOffset points c r x → IsOffset points c r y → x ≡ y
one_offset points c r None None walk a b = refl
one_offset points c r None (Some n) walk a b = absurd (a n b)
one_offset points c r (Some m) None walk a b = absurd (b m a)
one_offset points c r (Some m) (Some n) walk a b = sym (a walk.0 walk.1) ∙ b walk.0 walk.1

one_access : (instr : Instr) (f g : ℕ → Option ℕ) → IsWellFormed instr → ((r : ℕ) → r < 32 → f r ≡ g r) → access_of instr f ≡ access_of instr g
one_access (Load op rd rs1 imm) f g within same = ap (option_map (λ o. plus o imm)) (same rs1 within.1)
one_access (Store op rs1 rs2 imm) f g within same = ap (option_map (λ o. plus o imm)) (same rs1 within.0)
one_access (Lui rd imm) f g within same = refl
one_access (Auipc rd imm) f g within same = refl
one_access (Jal rd off) f g within same = refl
one_access (Jalr rd rs1 imm) f g within same = refl
one_access (Branch op rs1 rs2 off) f g within same = refl
one_access (Imm op rd rs1 imm) f g within same = refl
one_access (Shift op rd rs1 by) f g within same = refl
one_access (Reg op rd rs1 rs2) f g within same = refl
one_access (Fence rd rs1 imm) f g within same = refl
one_access Ecall f g within same = refl
one_access Ebreak f g within same = refl

flat_map_same : {X Y : Type 0} (f g : X → List Y) (xs : List X) → All (λ x. f x ≡ g x) xs → flat_map f xs ≡ flat_map g xs
flat_map_same f g [] same = refl
flat_map_same f g (x ∷ xs) same =
    ap₂ (λ ys zs. ys ++ zs) (same 0 x (omega arith)) (flat_map_same f g xs (λ k d below. same (suc k) d (omega arith)))

-- offsets that are told over all walks give one effect
one_effect_by : (w : Width) (points : FlowPoints) (names : List Name) (c : CodePoint) (f g : ℕ → Option ℕ) → HasCode points → Contains points.points c
    → AreOffsetsAt points.points c f → AreOffsetsAt points.points c g → effect_by w names c f ≡ effect_by w names c g
one_effect_by w points names c f g has there first second =
    let found = number_at points.points c there in
    ap (effect_at_by w names c) (one_access c.instr f g (well_formed points found.0 c has found.1)
    (λ r small. one_offset points.points c r (f r) (g r) (has_walk points c has there) (first r small) (second r small)))

pub one_effect : (points : FlowPoints) (names : List Name) (c : CodePoint) (f g : ℕ → Option ℕ) → HasCode points → Contains points.points c
    → AreOffsetsAt points.points c f → AreOffsetsAt points.points c g → effect_of names c f ≡ effect_of names c g
one_effect points names c f g has there first second = one_effect_by Wide points names c f g has there first second

made : ℕ → ℕ → List Proc → ℕ → List ℕ → List Edge → ℕ → Program
made width registers procs nodes owners edges start =
    record { width = width; registers = registers; procs = procs; nodes = nodes; owners = owners; edges = edges; start = start }

from_fields : (p q : Program) → p.width ≡ q.width → p.registers ≡ q.registers → p.procs ≡ q.procs → p.nodes ≡ q.nodes → p.owners ≡ q.owners
    → p.edges ≡ q.edges → p.start ≡ q.start → p ≡ q
unfolding made
from_fields p q width registers procs nodes owners edges start =
    let same : made p.width p.registers p.procs p.nodes p.owners p.edges p.start ≡ made q.width q.registers q.procs q.nodes q.owners q.edges q.start =
    λ i. made (width i) (registers i) (procs i) (nodes i) (owners i) (edges i) (start i) in
    same

pub one_program : {w : Width} (points : FlowPoints) (names : List Name) (first second : Program) → HasCode points → IsLiftedBy w points names first
    → IsLiftedBy w points names second → first ≡ second
one_program {w = w} points names first second has is other =
    from_fields first second (is.width ∙ sym other.width) (is.registers ∙ sym other.registers) (is.procs ∙ sym other.procs) (is.nodes ∙ sym other.nodes)
    (is.owners ∙ sym other.owners)
    (is.edges
    ∙ flat_map_same (λ c. edges_of points (effect_by w names c (is.offset c)) c) (λ c. edges_of points (effect_by w names c (other.offset c)) c) points.points
    (λ k d below.
    let c = get_or points.points k d in
    let there = All-contains_itself points.points k d below in
    ap (λ assigns. edges_of points assigns (get_or points.points k d))
    (one_effect_by w points names (get_or points.points k d) (is.offset (get_or points.points k d)) (other.offset (get_or points.points k d)) has there
    (is.offsets_are _ there) (other.offsets_are _ there)))
    ∙ sym other.edges)
    (is.start ∙ sym other.start)
