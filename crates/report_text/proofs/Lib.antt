mod Terms
pub mod Texts
