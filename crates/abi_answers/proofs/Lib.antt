pub mod Telling
pub mod Placing
