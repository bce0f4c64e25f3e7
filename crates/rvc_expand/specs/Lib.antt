pub mod Halves
pub mod Immediates
pub mod Rows
pub mod Lengths
