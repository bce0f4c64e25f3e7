-- A word of two bytes has no row of the table of instruction words.
use Rattle.std.proofs.Common.{◌≡◌, ℕ, Option, Some, arith}
use Rattle.rv_instr.specs.declared.Instr.{Instr}
use Rattle.rvc_expand.specs.Rows.{Expands}
use Rattle.rvc_expand.specs.Lengths.{MeansWithLength}
use Rattle.rvc_expand.specs.Lengths.MeansWithLength.{whole, half}
use Rattle.rvc_expand.proofs.lengths.decode_with_length.Goals as goal

of_a_half : (w length : ℕ) (found : Option Instr) → length ≡ 2 → ((instr : Instr) → Expands w instr → found ≡ Some instr)
    → (instr : Instr) → MeansWithLength w length instr → found ≡ Some instr
of_a_half w length found is_2 only instr (whole is_4 means) = absurd (omega arith)
of_a_half w length found is_2 only instr (half is_2' small expands) = only instr expands

pub returns-in-2-clause-only : goal.returns-in-2-clause-only
returns-in-2-clause-only c = of_a_half c.args.word c.args.length c.expand.result c.in-2.is c.expand.ensures.only
