pub mod Matrices
pub mod Laws
pub mod RowSums
