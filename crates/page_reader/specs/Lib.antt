pub mod Exactness
pub mod States
pub mod Laws
