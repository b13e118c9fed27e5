pub mod Ending
pub mod Shapes
pub mod Laws
