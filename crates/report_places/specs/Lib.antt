pub mod Strangers
