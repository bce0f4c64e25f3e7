pub mod Keeping
pub mod Endless
pub mod Clobbering
