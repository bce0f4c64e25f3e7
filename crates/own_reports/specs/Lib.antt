pub mod Checked
pub mod Reached
pub mod Unrefused
pub mod One
pub mod Paths
