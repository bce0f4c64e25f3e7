use Rattle.never_neither.proofs.Together.{image_made}
use Rattle.never_neither.proofs.laws.images_are_made.Goals as goal

pub returns : goal.returns
returns c = λ bytes no. image_made bytes no
