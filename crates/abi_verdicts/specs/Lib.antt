pub mod Ends
pub mod Faults
pub mod Verdicts
pub mod Depths
