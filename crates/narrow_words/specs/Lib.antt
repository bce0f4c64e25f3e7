pub mod Rows
pub mod Accepted
pub mod Reports
pub mod Made
pub mod Text
pub mod Laws
