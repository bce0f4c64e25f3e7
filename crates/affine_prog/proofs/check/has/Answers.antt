use Rattle.std.proofs.Common.{arith, sym, ◌∙◌}
use Rattle.std.proofs.lemmas.Bool.{ltb-true, false≢true}
use Rattle.row_modules.proofs.Laws.{has_beyond}
use Rattle.affine_prog.proofs.check.has.Goals as goal

pub returns-else-i-lt16 : goal.returns-else-i-lt16
returns-else-i-lt16 c =
    (λ t. absurd (omega (arith, ltb-true _ _ t)), λ t. absurd (false≢true (sym (has_beyond 16 c.args.set c.args.i (omega arith) (omega arith)) ∙ t)))
