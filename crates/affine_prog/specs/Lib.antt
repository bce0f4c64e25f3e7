pub mod Programs
pub mod Assignments
pub mod LevelPaths
pub mod OpenPaths
pub mod Relations
pub mod Laws
pub mod Spans
