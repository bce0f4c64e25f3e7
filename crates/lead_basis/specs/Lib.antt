pub mod Remainders
pub mod Inserts
pub mod Laws
pub mod Annihilators
pub mod Mirrors
pub mod Relations
pub mod Whole
pub mod Marks
