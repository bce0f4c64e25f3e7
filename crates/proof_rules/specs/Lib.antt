pub mod Simple
pub mod Rules
pub mod Laws
pub mod Exact
pub mod Alike
