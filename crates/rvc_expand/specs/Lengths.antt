-- Instructions with their lengths: RISC-V Unprivileged ISA, "Expanded Instruction-Length Encoding".
--
--   length_of low                   the bytes of an instruction whose first byte is low: 4 where its two
--                                   lowest bits are both 1, else 2
--   MeansWithLength w length instr  the word w of an instruction of this length, 4 or 2 bytes, means instr:
--                                   by the table of instruction words, or by that of halves
use Rattle.std.specs.Prelude.{◌≡◌, ℕ, ◌^◌, ◌<◌, ◌==◌, if◌then◌else◌}
use Rattle.rv_decode.specs.Layouts.{bits_at}
use Rattle.rv_decode.specs.Instructions.{Means}
use Rattle.rv_instr.specs.declared.Instr.{Instr}
use Rattle.rvc_expand.specs.Rows.{Expands}

abbrev pub length_of : ℕ → ℕ
length_of low = if bits_at low 0 2 == 3 then 4 else 2

pub data MeansWithLength (w length : ℕ) (instr : Instr) : Type 0 where
  whole : length ≡ 4 → Means w instr → MeansWithLength w length instr
  half : length ≡ 2 → w < 2 ^ 16 → Expands w instr → MeansWithLength w length instr
