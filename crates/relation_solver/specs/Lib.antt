pub mod Zero
pub mod Solving
pub mod Laws
