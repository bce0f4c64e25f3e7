use Rattle.std.proofs.Common.{arith}
use Rattle.rv_decode.proofs.Immediates.{pieces_are_shift}
use Rattle.rv_decode.proofs.layouts.layout_shift.Goals as goal

pub returns : goal.returns
returns c =
    pieces_are_shift _ _ _ _ _ _ _ _ c.requires.width.0 c.requires.width.1 c.requires.fields (omega arith)
