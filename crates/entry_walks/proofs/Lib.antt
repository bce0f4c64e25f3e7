pub mod Formed
pub mod Walking
