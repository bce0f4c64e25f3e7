use Rattle.affine_prog.proofs.Spanned.{starts_span}
use Rattle.affine_prog.proofs.laws.starts_are_spanned.Goals as goal

pub returns : goal.returns
returns c = starts_span
