-- Products, images, affine assignments and extensions are linear maps of rows, in each of their arguments.
use Rattle.std.proofs.Common.{ℕ, List}
use Rattle.row_modules.specs.Maps.{IsLinear, IsBilinear}
use Rattle.map_modules.specs.Matrices.{product, apply, after_affine, linear_extension}
use Rattle.map_modules.proofs.Entries.{IsRow-matrix, IsRow-vector}
use Rattle.map_modules.proofs.Linear.{product_first, product_second, apply_first, apply_second, after_affine_sum, extension_sum}

pub product_is_bilinear : IsBilinear 289 289 289 product
product_is_bilinear = record {
  first = λ m r. record { rows = λ v row. IsRow-matrix _; sum = product_first m };
  second = λ m r. record { rows = λ v row. IsRow-matrix _; sum = product_second m };
}

pub apply_is_bilinear : IsBilinear 289 17 17 apply
apply_is_bilinear = record {
  first = λ v r. record { rows = λ m row. IsRow-vector _; sum = apply_first v };
  second = λ m r. record { rows = λ v row. IsRow-vector _; sum = apply_second m };
}

pub after_affine_is_linear : (at : ℕ) (row : List ℕ) → IsLinear 289 289 (λ m. after_affine m at row)
after_affine_is_linear at row = record { rows = λ m r. IsRow-matrix _; sum = after_affine_sum at row }

pub extension_is_linear : (registers slots : ℕ) → IsLinear 289 289 (linear_extension registers slots)
extension_is_linear registers slots = record { rows = λ m r. IsRow-matrix _; sum = extension_sum registers slots }
