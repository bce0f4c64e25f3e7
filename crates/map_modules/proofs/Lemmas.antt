-- The laws of matrices that crates above cite, each with variables for all that it speaks of.
pub use Rattle.map_modules.proofs.Sums.{word-add, word-mul, word-word, sum_below_none, sum_below-suc, sum_below_same, sum_below-times, sum_below-plus, sum_below_pick}
pub use Rattle.map_modules.proofs.Entries.{cell_within, position, cell-table, IsRow-table, table_from_cells, same_table, one_column, entry-matrix, IsRow-matrix, matrix_from_entries, same_matrix, get_or-vector, IsRow-vector, vector_from_index, same_vector}
pub use Rattle.map_modules.proofs.Linear.{table-plus, matrix-plus, vector-plus, IsAdditive, plus_at, product_first, moved_second, product_second, apply_first, apply_second, either_plus, after_affine_sum, extension_sum}
pub use Rattle.map_modules.proofs.Bilinear.{product_is_bilinear, apply_is_bilinear, after_affine_is_linear, extension_is_linear}
pub use Rattle.map_modules.proofs.Products.{row_word, moved-product, moved-apply, moved-identity, assigned-moved, product-product, apply-product, product-identity_first, product-identity_second, apply-identity, after_affine-product}
pub use Rattle.map_modules.proofs.Affine.{affine_from_row, IsAffine-identity, IsAffine-product, IsAffine-after_affine, IsAffine-extension, IsState-apply}
pub use Rattle.map_modules.proofs.Keeping.{keeping_is_linear, keeping_leaves_words}
pub use Rattle.map_modules.proofs.Outside.{zero_sum, matrices_on_are_module, product_on, after_affine_on, apply_on, extension_rows}
pub use Rattle.map_modules.proofs.UsedByMatrices.{few_used_by_matrices}
