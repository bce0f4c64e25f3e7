use Rattle.std.proofs.Common.{◌∙◌, Some, sym, ap}
use Rattle.affine_lift.proofs.OffsetWords.{offset_is_word, told_back}
use Rattle.affine_lift.proofs.effect.offset_of.Goals as goal

pub returns-in-Some : goal.returns-in-Some
returns-in-Some c =
    let given = sym c.in-Some.is ∙ c.at.ensures in
    ap Some c.cast_unsigned.ensures ∙ told_back _ _
    (λ o is. offset_is_word c.args.points.now c.args.offsets.now c.args.i c.args.register o c.known.ensures c.requires.offsets c.requires.point c.requires.register is) given
