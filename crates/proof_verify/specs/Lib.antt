pub mod Tests
pub mod Items
pub mod Points
pub mod Verdicts
pub mod RowBases
