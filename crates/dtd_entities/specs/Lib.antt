pub mod Positions
pub mod Entities
pub mod Endings
