pub mod Frames
pub mod Searches
pub mod Tables
