pub mod Classes
pub mod Wrapped
pub mod Kept
pub mod Starts
pub mod Laws
