pub mod Flows
pub mod Walks
pub mod Refusals
pub mod Sites
pub mod Causes
pub mod PointLists
