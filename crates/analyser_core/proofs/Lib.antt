pub mod RelationsTold
pub mod PointsTold
mod LinesRead
mod WordsTold
mod Worked
mod GivenBack
mod RunsTold
pub mod NodeStates
mod Counted
mod MergedSoFar
pub mod Keeping
mod Telling
mod Answered
mod Passed
mod Upgrading
