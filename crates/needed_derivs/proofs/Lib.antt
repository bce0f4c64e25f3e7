mod Marking
mod Closing
mod Growing
mod Keeping
mod Moving
mod Short
pub mod Ordered
