pub mod Slots
pub mod Activations
pub mod Marks
pub mod Moments
pub mod Judges
pub mod Runs
pub mod Turns
pub mod Quiet
