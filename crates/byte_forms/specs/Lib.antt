pub mod Ranges
pub mod Classes
pub mod Laws
pub mod Runs
