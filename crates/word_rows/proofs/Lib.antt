pub mod Wraps
pub mod Exact
pub mod Dots
pub mod Leads
pub mod Units
pub mod Laws
mod ByIndex
mod Vectors
mod Blocks
mod Covered
mod Newton
mod Zeros
pub mod Inverses
