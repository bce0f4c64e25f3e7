pub mod Joined
pub mod FirstTerms
pub mod Ahead
pub mod Stops
pub mod OneFront
pub mod Commas
