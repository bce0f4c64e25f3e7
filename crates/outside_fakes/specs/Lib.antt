pub mod MemFiles
pub mod Named
