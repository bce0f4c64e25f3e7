pub mod Fields
pub mod Headers
pub mod Segments
pub mod Refusals
pub mod Ranges
pub mod Fetches
pub mod Images
pub mod Symbols
