-- Offsets of registers along walks of a procedure. An offset is a word: what a register holds is sp at the
-- procedure's entry plus the offset, wrapping at 2^64. Registers are numbers: zero is 0, sp is 2, s0 and s1 are 8
-- and 9, s2 to s11 are 18 to 27, a0 is 10.
--
--   written_by instr            the register that an instruction writes; ECALL writes a0
--   kept_unless written r       r itself with nothing added, unless it is the register that is written
--   source_in instr r           the register whose offset r has after an instruction, and what is added to
--                               it: only ADDI moves an offset, and each other write takes r's away
--   is_kept_by_calls r          r is sp or one of s0 to s11
--   source_of instr flow r      the same with the flow: a call keeps the offsets of sp and of s0 to s11 and takes
--                               the others away, and zero never has one
--   moved source offsets        the offset from this source
--   at_entry r                  the offsets at the entry: 0 for sp
--   offsets_after walk r        the offset of r after the code points of a walk, the last of which is first
--   goes_on p flow              where a walk of p goes on from a point with this flow: of a call's two
--                               successors only the one behind the call counts
--   FrameWalk points p walk c   a walk of p through these points, which ends at c after those of `walk`
--   HasOffset points c r o      every walk of c's procedure to c ends with the offset o for r
--   IsOffset points c r found   found is the offset that r has at c, if it has one
--   AreOffsets points offsets   offsets has for each point in turn those of the 32 registers
--   AreOffsetsOf points offsets the same for the points of an image
--   offset_at offsets i r       the offset of r at point i
use Rattle.std.specs.Prelude.{◌≡◌, ℕ, ◌+◌, ◌*◌, ◌<◌, ◌==◌, nat_le, Bool, ◌&&◌, ◌||◌, ℤ, pos, List, [], ◌∷◌, length, Contains, Option, None, Some, MatchOption, option_map, slice_get, slice_index_or, if◌then◌else◌}
use Rattle.rv_instr.specs.declared.Instr.{Instr}
use Rattle.rv_instr.specs.declared.Instr.TheVariants.{Lui, Auipc, Jal, Jalr, Branch as BranchInstr, Load, Store, Imm, Shift, Reg, Fence, Ecall, Ebreak}
use Rattle.rv_instr.specs.declared.ImmOp.TheVariants.{Addi}
use Rattle.flow_points.specs.Flows.{plus}
use Rattle.flow_points.specs.Walks.{point}
use Rattle.flow_points.specs.PointLists.{FlowPoints}
use Rattle.flow_points.specs.declared.code_points.Point.{Point}
use Rattle.flow_points.specs.declared.code_points.Flow.{Flow}
use Rattle.flow_points.specs.declared.code_points.Flow.TheVariants.{Next, Jump, Branch, Call, Return, Halt}
use Rattle.flow_points.specs.declared.code_points.CodePoint.{CodePoint}

abbrev pub written_by : Instr → Option ℕ
written_by (Lui rd imm) = Some rd
written_by (Auipc rd imm) = Some rd
written_by (Jal rd off) = Some rd
written_by (Jalr rd rs1 imm) = Some rd
written_by (BranchInstr op rs1 rs2 off) = None
written_by (Load op rd rs1 imm) = Some rd
written_by (Store op rs1 rs2 imm) = None
written_by (Imm op rd rs1 imm) = Some rd
written_by (Shift op rd rs1 by) = Some rd
written_by (Reg op rd rs1 rs2) = Some rd
written_by (Fence rd rs1 imm) = None
written_by Ecall = Some 10
written_by Ebreak = None

abbrev pub kept_unless : Option ℕ → ℕ → Option (ℕ × ℤ)
kept_unless None r = Some (r, pos 0)
kept_unless (Some rd) r = if rd == r then None else Some (r, pos 0)

abbrev pub source_in : Instr → ℕ → Option (ℕ × ℤ)
source_in (Imm Addi rd rs1 imm) r = if rd == r then Some (rs1, imm) else Some (r, pos 0)
source_in instr r = kept_unless (written_by instr) r

abbrev pub is_kept_by_calls : ℕ → Bool
is_kept_by_calls r = r == 2 || r == 8 || r == 9 || (nat_le 18 r && nat_le r 27)

abbrev pub source_of : Instr → Flow → ℕ → Option (ℕ × ℤ)
source_of instr (Call target next) r = if is_kept_by_calls r then Some (r, pos 0) else None
source_of instr flow r = if r == 0 then None else source_in instr r

abbrev pub moved : Option (ℕ × ℤ) → (ℕ → Option ℕ) → Option ℕ
moved None offsets = None
moved (Some source) offsets = option_map (λ o. plus o source.1) (offsets source.0)

abbrev pub at_entry : ℕ → Option ℕ
at_entry r = if r == 2 then Some 0 else None

abbrev pub offsets_after : List CodePoint → ℕ → Option ℕ
offsets_after [] r = at_entry r
offsets_after (c ∷ earlier) r = moved (source_of c.instr c.flow r) (offsets_after earlier)

abbrev pub goes_on : ℕ → Flow → List Point
goes_on p (Next next) = point p next ∷ []
goes_on p (Jump target) = point p target ∷ []
goes_on p (Branch next target) = point p next ∷ point p target ∷ []
goes_on p (Call target next) = point p next ∷ []
goes_on p Return = []
goes_on p Halt = []

pub data FrameWalk (points : List CodePoint) (p : ℕ) : List CodePoint → CodePoint → Type 0 where
  begin : (walk : List CodePoint) (c : CodePoint) → walk ≡ [] → Contains points c → c.point ≡ point p p
      → FrameWalk points p walk c
  onward : (walk earlier : List CodePoint) (from to : CodePoint) → FrameWalk points p earlier from
      → walk ≡ from ∷ earlier → Contains points to → Contains (goes_on p from.flow) to.point
      → FrameWalk points p walk to

abbrev pub HasOffset : List CodePoint → CodePoint → ℕ → ℕ → Type 0
HasOffset points c r o =
    (walk : List CodePoint) → FrameWalk points c.point.proc_entry walk c → offsets_after walk r ≡ Some o

abbrev pub IsOffset : List CodePoint → CodePoint → ℕ → Option ℕ → Type 0
IsOffset points c r found = MatchOption found ((o : ℕ) → HasOffset points c r o → ⊥) (HasOffset points c r)

abbrev pub offset_at : List (Option ℕ) → ℕ → ℕ → Option ℕ
offset_at offsets i r = slice_index_or offsets (32 * i + r) None

pub record AreOffsets (points : List CodePoint) (offsets : List (Option ℕ)) : Type 0 where
  pub size : length offsets ≡ 32 * length points
  pub exact : (i : ℕ) (c : CodePoint) (r : ℕ) → slice_get points i ≡ Some c → r < 32
      → IsOffset points c r (offset_at offsets i r)

abbrev pub AreOffsetsOf : FlowPoints → List (Option ℕ) → Type 0
AreOffsetsOf points offsets = AreOffsets points.points offsets
