pub mod FormReader
pub mod Laws
