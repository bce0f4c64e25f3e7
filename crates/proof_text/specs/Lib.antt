pub mod Sparse
pub mod Files
pub mod Text
