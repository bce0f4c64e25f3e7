mod FirstOnes
pub mod Laws
