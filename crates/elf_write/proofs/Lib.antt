pub mod Laws
mod LowBytes
