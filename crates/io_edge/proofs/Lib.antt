pub mod Grown
pub mod Staying
pub mod NameLemmas
pub mod NormalNames
mod Examples
