pub mod Names
pub mod Certificates
pub mod Reports
pub mod Text
