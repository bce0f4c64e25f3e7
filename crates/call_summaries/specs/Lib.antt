pub mod Sound
pub mod Tables
pub mod Offers
pub mod Pushes
pub mod Openings
pub mod Solutions
pub mod Work
