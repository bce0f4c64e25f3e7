pub mod BytesStored
pub mod ImageLoaded
pub mod LowWords
pub mod OneStep
pub mod HartsKept
pub mod ResultsAreWords
pub mod RangesCovered
