mod Procs
mod Ending
mod Tallied
mod Walking
mod Alone
mod Tables
mod SimpleTables
mod Numbering
mod Placed
mod Building
mod Reading
pub mod Lemmas
