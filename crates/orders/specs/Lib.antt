pub mod Orders
pub mod OrdersRead
pub mod Checks
