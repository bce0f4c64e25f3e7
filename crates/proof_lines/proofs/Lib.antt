mod WordTexts
mod Rising
mod Heads
pub mod OneLine
