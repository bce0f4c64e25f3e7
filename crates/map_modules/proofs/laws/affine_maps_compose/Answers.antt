use Rattle.map_modules.proofs.Affine.{IsAffine-identity, IsAffine-product, IsAffine-after_affine, IsAffine-extension, IsState-apply}
use Rattle.map_modules.proofs.laws.affine_maps_compose.Goals as goal

pub returns : goal.returns
returns c = record {
  compose = record {
    identities = IsAffine-identity;
    products = IsAffine-product;
    affine = IsAffine-after_affine;
    extensions = IsAffine-extension;
  };
  states = IsState-apply;
}
