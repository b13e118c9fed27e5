pub mod Exactness
pub mod Ways
pub mod Laws
pub mod Cuts
pub mod Reader
pub mod Classes
pub mod Starts
pub mod PageWays
