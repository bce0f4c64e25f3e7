use Rattle.map_modules.proofs.Products.{product-product, apply-product, product-identity_first, product-identity_second, apply-identity, after_affine-product}
use Rattle.map_modules.proofs.laws.products_associate.Goals as goal

pub returns : goal.returns
returns c = record {
  associative = product-product;
  neutral = (λ m row. (product-identity_first m row, product-identity_second m row), apply-identity);
  apply = apply-product;
  affine = after_affine-product;
}
