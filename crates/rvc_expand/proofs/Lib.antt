pub mod Cited
pub mod OneMeaning
pub mod InRange
