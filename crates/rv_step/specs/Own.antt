-- Which instructions the machine does by itself.
--
--   IsStore instr   it is a store
--   IsOwn instr     it is neither ECALL, which asks the environment, nor EBREAK, which has no step
use Rattle.rv_instr.specs.declared.Instr.{Instr}
use Rattle.rv_instr.specs.declared.Instr.TheVariants.{Store, Ecall, Ebreak}

abbrev pub IsStore : Instr → Type 0
IsStore (Store op rs1 rs2 imm) = Unit {0}
IsStore instr = ⊥

abbrev pub IsOwn : Instr → Type 0
IsOwn Ecall = ⊥
IsOwn Ebreak = ⊥
IsOwn instr = Unit {0}
