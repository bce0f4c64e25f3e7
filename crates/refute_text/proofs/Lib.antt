mod Each
mod Lines
pub mod Sound
