pub mod Finding
pub mod Ordering
pub mod Reading
pub mod Settling
pub mod Keeping
pub mod Tabling
