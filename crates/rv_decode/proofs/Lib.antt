pub mod Immediates
pub mod RegisterNames
pub mod Table
