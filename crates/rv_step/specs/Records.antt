-- What is told of a machine: why it makes no step, and what a step did.
--
--   StopsAt m instr why  why m makes no step of its own at instr, if it makes none
--   StopsWith m why      m makes no step of its own, and why: nothing is fetched at pc, the word there means
--                        nothing, it is EBREAK, it is ECALL with 93 (exit) in a7, it is another ECALL
--   IsAtStore m          the word fetched at m's pc means a store
--   stored_at op a m n   what is told of a store at a on the way from m to n
--   store_of instr m n   what is told of the store of instr on the way from m to n; none where it is no store
--   IsRecord m n told    the record tells the step from m to n
--   IsClosing m told     the record tells where m is, and no step
use Rattle.std.specs.Prelude.{◌≡◌, ◌≢◌, ℕ, ℤ, pos, ◌+ℤ◌, ◌==◌, true, false, Option, None, Some, if◌then◌else◌}
use Rattle.std.specs.Option.{unwrap_or}
use Rattle.elf_image.specs.Fetches.{read}
use Rattle.elf_image.specs.declared.fetched.Fetched.{Fetched}
use Rattle.rv_instr.specs.declared.Instr.{Instr}
use Rattle.rv_instr.specs.declared.Instr.TheVariants.{Store, Ecall, Ebreak}
use Rattle.rv_instr.specs.declared.StoreOp.{StoreOp}
use Rattle.rvc_expand.specs.Lengths.{MeansWithLength}
use Rattle.rv_step.specs.Words.{word}
use Rattle.rv_step.specs.Harts.{Hart, x, fetched}
use Rattle.rv_step.specs.Machines.{hart_of, made_of}
use Rattle.rv_step.specs.Steps.{store_width, IsAt}
use Rattle.rv_step.specs.declared.machine.Machine.{Machine}
use Rattle.rv_step.specs.declared.records.StepRec.{StepRec}
use Rattle.rv_step.specs.declared.records.StoreRec.{StoreRec}
use Rattle.rv_step.specs.declared.records.Stop.{Stop}
use Rattle.rv_step.specs.declared.records.Stop.TheVariants as stop

-- at an instruction that is fetched
abbrev pub StopsAt : Hart → Instr → Option Stop → Type 0
StopsAt m Ebreak why = why ≡ Some (stop.Break m.pc)
StopsAt m Ecall why = why ≡ Some (if x m 17 == 93 then stop.Exit (x m 10) else stop.Ecall (x m 17))
StopsAt m instr why = why ≡ None

pub data StopsWith (m : Hart) (why : Stop) : Type 0 where
  outside : fetched m ≡ None → why ≡ stop.Outside m.pc → StopsWith m why
  illegal : (at : Fetched) → fetched m ≡ Some at → ((instr : Instr) → MeansWithLength at.word at.length instr → ⊥)
      → why ≡ stop.Illegal at.word → StopsWith m why
  breaks : (at : Fetched) → IsAt m at Ebreak → why ≡ stop.Break m.pc → StopsWith m why
  exits : (at : Fetched) → IsAt m at Ecall → x m 17 ≡ 93 → why ≡ stop.Exit (x m 10) → StopsWith m why
  calls : (at : Fetched) → IsAt m at Ecall → x m 17 ≢ 93 → why ≡ stop.Ecall (x m 17) → StopsWith m why

pub record IsAtStore (m : Hart) : Type 0 where
  pub at : Fetched
  pub op : StoreOp
  pub rs1 : ℕ
  pub rs2 : ℕ
  pub imm : ℤ
  pub is_at : IsAt m at (Store op rs1 rs2 imm)

abbrev pub stored_at : StoreOp → ℕ → Hart → Hart → StoreRec
stored_at op a m n = record {
  address = a;
  width = store_width op;
  before = read (store_width op) m.memory a;
  after = read (store_width op) n.memory a;
}

abbrev pub store_of : Instr → Hart → Hart → Option StoreRec
store_of (Store op rs1 rs2 imm) m n = Some (stored_at op (word (pos (x m rs1) +ℤ imm)) m n)
store_of instr m n = None

pub record IsRecord (m n : Machine) (told : StepRec) : Type 0 where
  pub index : told.index ≡ made_of m
  pub made : told.made ≡ true
  pub pc : told.pc ≡ (hart_of m).pc
  pub instr : Instr
  pub is_at : IsAt (hart_of m) (record { word = told.word; length = told.length }) instr
  pub regs : told.regs ≡ (hart_of m).registers
  pub next : told.next ≡ (hart_of n).pc
  pub store : told.store ≡ store_of instr (hart_of m) (hart_of n)

-- what is fetched, and a word and a length of 0 where nothing is
abbrev pub fetched_or_zero : Hart → Fetched
fetched_or_zero m = unwrap_or (fetched m) (record { word = 0; length = 0 })

pub record IsClosing (m : Machine) (told : StepRec) : Type 0 where
  pub index : told.index ≡ made_of m
  pub made : told.made ≡ false
  pub pc : told.pc ≡ (hart_of m).pc
  pub word : told.word ≡ (fetched_or_zero (hart_of m)).word
  pub length : told.length ≡ (fetched_or_zero (hart_of m)).length
  pub regs : told.regs ≡ (hart_of m).registers
  pub next : told.next ≡ (hart_of m).pc
  pub store : told.store ≡ None
