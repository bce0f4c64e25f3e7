pub mod Frames
pub mod Premises
pub mod Theorems
pub mod Walks
