pub mod Tracking
pub mod Values
pub mod FrameSlots
pub mod Effects
pub mod Lifting
