-- What the environment may do.
--
--   KeepsAllBytes m n             no byte of memory differs
--   QuietEcallsKeepRules          an ECALL after which no byte of memory differs keeps the rules of the discipline, whatever it
--                                 leaves in registers
use Rattle.std.specs.Prelude.{◌≡◌, ℕ, ◌^◌, ◌<◌, List, Some}
use Rattle.elf_image.specs.declared.image.Image.{Image}
use Rattle.flow_points.specs.declared.code_points.CodePoint.{CodePoint}
use Rattle.rv_instr.specs.declared.Instr.TheVariants.{Ecall}
use Rattle.rv_step.specs.Effects.{Calls}
use Rattle.rv_step.specs.Harts.{Hart}
use Rattle.run_paths.specs.Lifts.{Lift, IsLiftOf}
use Rattle.run_paths.specs.Activations.{Activation, point_of}
use Rattle.run_paths.specs.Discipline.{KeepsRules}

abbrev pub KeepsAllBytes : Hart → Hart → Type 0
KeepsAllBytes m n = (b : ℕ) → b < 2 ^ 64 → n.memory b ≡ m.memory b

abbrev pub QuietEcallsKeepRules : Type 0
QuietEcallsKeepRules =
    (image : Image) (lift : Lift) (m n : Hart) (activations : List Activation) (c : CodePoint) (next : ℕ) → IsLiftOf image lift
    → point_of lift m activations ≡ Some c → c.instr ≡ Ecall → Calls m next n → KeepsAllBytes m n
    → KeepsRules lift m n activations
