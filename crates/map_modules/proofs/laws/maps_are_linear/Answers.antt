use Rattle.map_modules.proofs.Bilinear.{product_is_bilinear, apply_is_bilinear, after_affine_is_linear, extension_is_linear}
use Rattle.map_modules.proofs.laws.maps_are_linear.Goals as goal

pub returns : goal.returns
returns c = record {
  product = product_is_bilinear;
  apply = apply_is_bilinear;
  after_affine = after_affine_is_linear;
  extend_call = extension_is_linear;
}
