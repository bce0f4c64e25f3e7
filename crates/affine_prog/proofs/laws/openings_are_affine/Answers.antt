use Rattle.affine_prog.proofs.Calls.{opening_map-zeros, slot_words_are_linear}
use Rattle.affine_prog.proofs.Openings.{openings_span}
use Rattle.affine_prog.proofs.laws.openings_are_affine.Goals as goal

pub returns : goal.returns
returns c = record {
  affine = record { map = opening_map-zeros; linear = slot_words_are_linear };
  spanned = openings_span;
}
