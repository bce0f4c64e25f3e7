pub mod Zeros
pub mod Columns
pub mod Prepared
pub mod Imaging
pub mod Laws
