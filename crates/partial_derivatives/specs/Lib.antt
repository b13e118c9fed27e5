pub mod Exactness
pub mod PartExactness
pub mod Parts
pub mod Classes
pub mod Laws
