pub mod States
pub mod Growth
pub mod Turns
pub mod Tables
