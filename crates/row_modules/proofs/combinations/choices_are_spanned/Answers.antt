use Rattle.row_modules.proofs.Lists.{contains_first, contains_later}
use Rattle.row_modules.proofs.Unknowns.{choices_span}
use Rattle.row_modules.proofs.combinations.choices_are_spanned.Goals as goal

pub returns : goal.returns
returns c =
    λ n start steps rows. choices_span n start (rows start (contains_first start steps)) steps (λ v h. rows v (contains_later start steps v h))
