pub mod Modules
pub mod Positions
pub mod Maps
pub mod Forms
pub mod Choices
pub mod Bases
pub mod Laws
