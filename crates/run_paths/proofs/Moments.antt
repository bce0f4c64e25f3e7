-- The machine at a moment: where it is, and what its activations are.
use Rattle.std.proofs.Common.{◌≡◌, ℕ, ◌<◌, List, [], ◌∷◌, Contains, length, Option, Some, inl, inr, refl, ap, sym, ◌∙◌, arith, subst}
use Rattle.std.proofs.lemmas.Bool.{cases_lt}
use Rattle.std.proofs.lemmas.List.{get_or_past}
use Rattle.elf_image.specs.Fetches.{fetch}
use Rattle.elf_image.specs.declared.image.Image.{Image}
use Rattle.elf_image.specs.declared.range.Range.{Range}
use Rattle.rv_instr.specs.declared.Instr.{Instr}
use Rattle.rv_instr.specs.declared.Instr.TheVariants.{Lui, Auipc, Jal, Jalr, Branch as BranchInstr, Load, Store, Imm, Shift, Reg, Fence, Ecall, Ebreak}
use Rattle.flow_points.specs.declared.code_points.CodePoint.{CodePoint}
use Rattle.flow_points.specs.declared.code_points.Flow.{Flow}
use Rattle.flow_points.specs.declared.code_points.Flow.TheVariants.{Next, Jump, Branch, Call, Return, Halt}
use Rattle.frame_offsets.specs.Frames.{HasOffset, IsOffset}
use Rattle.rv_step.specs.Harts.{Hart, IsHart}
use Rattle.rv_step.specs.Effects.{Writes}
use Rattle.rv_step.specs.Steps.{Executes}
use Rattle.affine_lift.specs.Values.{link_value}
use Rattle.run_paths.specs.Lifts.{Lift, IsLiftOf}
use Rattle.run_paths.specs.Activations.{Activation, point_of}
use Rattle.run_paths.specs.Discipline.{LeavesCode}
use Rattle.run_paths.proofs.EffectsLand.{IsAtPoint}
use Rattle.run_paths.proofs.Fetching.{fetch_same, fetched_as, fetched_small}
use Rattle.run_paths.proofs.Making.{FetchesAt, code_of}
use Rattle.run_paths.proofs.States.{AreWords}
use Rattle.run_paths.proofs.Pairs.{IsReady}
use Rattle.run_paths.proofs.Results.{Gives, gives_constant}
use Rattle.run_paths.proofs.Standing.{AllStand, Stands}

-- the machine, its activations and the maps of their level paths
pub record StandsAt (image : Image) (lift : Lift) (start : List ℕ) (m : Hart) (activations : List Activation) (maps : List (List ℕ)) : Type 0 where
  pub at : CodePoint
  pub is_at : point_of lift m activations ≡ Some at
  pub pc : m.pc ≡ at.point.address
  pub all : AllStand lift start m.memory activations maps at m.registers
  pub ready : IsReady image at m.registers
  pub hart : IsHart m
  pub fetches : (c : CodePoint) → Contains lift.points.points c → FetchesAt m c

pub words_of_hart : (m : Hart) → IsHart m → AreWords m.registers
words_of_hart m hart = record {
  count = hart.registers;
  zero_is = hart.zero_is;
  words = λ r. elim (cases_lt r (length m.registers)) [
    | inl within ↦ hart.words r 0 within
    | inr past ↦ let e = get_or_past m.registers r 0 past in omega arith
  ];
}

-- a step changes no executable range and no unit
pub record IsSameCode (m n : Hart) : Type 0 where
  pub code : n.code ≡ m.code
  pub unit : n.unit ≡ m.unit

same_written : (m n : Hart) (rd w next : ℕ) → Writes m rd w next n → IsSameCode m n
same_written m n rd w next made = record { code = made.code; unit = made.unit }

pub same_code : (instr : Instr) (next : ℕ) (m n : Hart) → Executes instr next m n → IsSameCode m n
same_code (Lui rd imm) next m n made = same_written m n _ _ _ made
same_code (Auipc rd imm) next m n made = same_written m n _ _ _ made
same_code (Jal rd off) next m n made = same_written m n _ _ _ made
same_code (Jalr rd rs1 imm) next m n made = same_written m n _ _ _ made
same_code (BranchInstr op rs1 rs2 off) next m n made = same_written m n _ _ _ made
same_code (Load op rd rs1 imm) next m n made = same_written m n _ _ _ made
same_code (Store op rs1 rs2 imm) next m n made = record { code = made.code; unit = made.unit }
same_code (Imm op rd rs1 imm) next m n made = same_written m n _ _ _ made
same_code (Shift op rd rs1 by) next m n made = same_written m n _ _ _ made
same_code (Reg op rd rs1 rs2) next m n made = same_written m n _ _ _ made
same_code (Fence rd rs1 imm) next m n made = same_written m n _ _ _ made
same_code Ecall next m n made = record { code = made.code; unit = made.unit }
same_code Ebreak next m n made = absurd made

-- where an activation and maps stand, the last one first
pub record LastStands (lift : Lift) (memory : ℕ → ℕ) (a : Activation) (f : List ℕ) (c : CodePoint) (regs : List ℕ) : Type 0 where
  pub entered : List ℕ
  pub stands : Stands lift memory a f c regs entered

pub last_stands : (lift : Lift) (start : List ℕ) (memory : ℕ → ℕ) (a : Activation) (earlier : List Activation) (f : List ℕ) (maps : List (List ℕ))
    (c : CodePoint) (regs : List ℕ) → AllStand lift start memory (a ∷ earlier) (f ∷ maps) c regs → LastStands lift memory a f c regs
last_stands lift start memory a [] f [] c regs h = record { entered = start; stands = h.1 }
last_stands lift start memory a [] f (g ∷ maps) c regs h = absurd h
last_stands lift start memory a (b ∷ earlier) f maps c regs h = record { entered = _; stands = h.2 }

pub none_stand : (lift : Lift) (start : List ℕ) (memory : ℕ → ℕ) (a : Activation) (earlier : List Activation) (c : CodePoint) (regs : List ℕ)
    → AllStand lift start memory (a ∷ earlier) [] c regs → ⊥
none_stand lift start memory a [] c regs h = h
none_stand lift start memory a (b ∷ earlier) c regs h = h

-- the value of a link
pub gives_link : (lift : Lift) (a : Activation) (regs : List ℕ) (memory : ℕ → ℕ) (flow : Flow) (after : ℕ) → AreWords regs
    → ((target to : ℕ) → flow ≡ Call target to → to ≡ after) → Gives lift.names a regs memory (link_value flow) after
gives_link lift a regs memory (Call target to) after words link =
    subst (λ (w : ℕ). Gives lift.names a regs memory (link_value (Call target to)) w) (link target to refl)
    (gives_constant lift.names a regs memory words.zero_is words.words to)
gives_link lift a regs memory (Next n) after words link = tt
gives_link lift a regs memory (Jump t) after words link = tt
gives_link lift a regs memory (Branch n t) after words link = tt
gives_link lift a regs memory Return after words link = tt
gives_link lift a regs memory Halt after words link = tt

module _ (image : Image) (lift : Lift) (is : IsLiftOf image lift) where
  pub fetches_kept : (m n : Hart) → IsSameCode m n → LeavesCode lift m n → ((c : CodePoint) → Contains lift.points.points c → FetchesAt m c)
      → (c : CodePoint) → Contains lift.points.points c → FetchesAt n c
  fetches_kept m n same leaves fetches c there =
      let small = fetched_small image c.point.address c.word c.length (code_of image lift.points is.points_are c there).instr.fetched in
      subst (λ (unit : ℕ). fetch unit n.code n.memory c.point.address ≡ Some (fetched_as c.word c.length)) (sym same.unit)
      (subst (λ (code : List Range). fetch m.unit code n.memory c.point.address ≡ Some (fetched_as c.word c.length)) (sym same.code)
      (fetch_same m.unit m.code m.memory n.memory c.point.address c.word c.length small (fetches c there) (leaves c there)))

  -- the offsets that the program knows are those of the walk
  pub known_offset : (c : CodePoint) (r o : ℕ) → Contains lift.points.points c → r < 32 → lift.offset c r ≡ Some o → HasOffset lift.points.points c r o
  known_offset c r o there low known =
      let told = is.lifted.offsets_are c there r low in
      let same : is.lifted.offset c r ≡ Some o = ap (λ (offset : CodePoint → ℕ → Option ℕ). offset c r) is.offset_is ∙ known in
      subst (λ (found : Option ℕ). IsOffset lift.points.points c r found) same told

  pub at_point : (m : Hart) (a : Activation) (f : List ℕ) (c : CodePoint) (entered : List ℕ) → m.pc ≡ c.point.address → AreWords m.registers
      → Stands lift m.memory a f c m.registers entered → IsAtPoint lift a c m
  at_point m a f c entered pc words s = record {
    at = pc;
    owner = s.owner;
    count = words.count;
    zero_is = words.zero_is;
    words = words.words;
    known = λ r o low known. s.offsets r o (known_offset c r o s.within low known);
  }
