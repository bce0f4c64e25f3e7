use Rattle.std.proofs.Common.{ap, sym, ◌∙◌, ◌∷◌, ◌++◌, []}
use Rattle.reach_modules.proofs.Placing.{numbers_more}
use Rattle.reach_modules.proofs.places.numbers_to.Goals as goal

pub loop-p-preserved : goal.loop-p-preserved
loop-p-preserved c = c.in_ok-add_place.ensures ∙ ap (λ l. l ++ c.loop-p.p ∷ []) c.loop-p.invariant ∙ sym (numbers_more c.loop-p.p)
