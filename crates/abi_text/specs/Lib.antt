pub mod Names
pub mod Places
pub mod Findings
pub mod Standings
pub mod Premises
pub mod Texts
