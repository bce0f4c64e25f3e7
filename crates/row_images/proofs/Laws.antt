-- The laws of images that crates above cite, each with variables for all that it speaks of.
pub use Rattle.row_images.proofs.Columns.{cell-column, column_length}
pub use Rattle.row_images.proofs.Imaging.{made_are_rows, are_images, images_span}
