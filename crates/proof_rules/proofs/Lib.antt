mod Choosing
mod Opening
mod Closed
mod Applying
mod Ruling
mod Claiming
mod Starting
mod Passing
mod Following
mod Nowhere
pub mod Lemmas
