use Rattle.std.proofs.Common.{FitsSigned, w32, arith}
use Rattle.std.proofs.lemmas.Int.{to_z-of_z}
use Rattle.rv_decode.proofs.Immediates.{pieces_are_J}
use Rattle.rv_decode.proofs.layouts.layout_j.Goals as goal

pub returns : goal.returns
returns c =
    let fits : FitsSigned w32 c.args.off = c.ranges.off in
    let signed = simp to_z-of_z at c.bits_of-bits.ensures in
    pieces_are_J _ _ c.args.off _ _ signed c.requires.off.1 c.requires.fields (omega arith)
