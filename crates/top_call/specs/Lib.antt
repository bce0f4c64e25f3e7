pub mod Answers
pub mod Inputs
pub mod Completeness
pub mod Laws
