pub mod Collecting
pub mod Telling
pub mod ByLevels
