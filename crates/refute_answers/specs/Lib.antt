pub mod Asked
pub mod Lifted
