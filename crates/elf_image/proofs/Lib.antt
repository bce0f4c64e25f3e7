pub mod Accepted
pub mod Apart
pub mod Found
pub mod Held
pub mod Units
pub mod Laws
pub mod BytesRead
mod ShortNames
