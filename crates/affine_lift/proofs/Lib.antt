mod OffsetWords
pub mod FirstPlaces
pub mod Nodes
mod PositionSets
pub mod Owners
pub mod EdgesFormed
mod Formed
pub mod PositionBits
pub mod EffectsSeen
pub mod Procedures
mod NamesRead
mod ItemsNamed
pub mod StoresWrite
mod SlotsWritten
mod VisibleSeen
pub mod OneProgram
mod OneReading
pub mod Cited
