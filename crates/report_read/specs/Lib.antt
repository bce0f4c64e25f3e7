pub mod Drafts
pub mod Judging
pub mod Steps
pub mod Telling
pub mod Written
