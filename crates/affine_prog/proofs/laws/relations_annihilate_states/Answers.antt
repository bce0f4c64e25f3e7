use Rattle.affine_prog.proofs.Spanned.{holds_is_annihilation}
use Rattle.affine_prog.proofs.laws.relations_annihilate_states.Goals as goal

pub returns : goal.returns
returns c = holds_is_annihilation
