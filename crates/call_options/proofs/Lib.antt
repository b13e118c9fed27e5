pub mod Names
pub mod Said
pub mod Parsing
pub mod Plain
pub mod Canonical
mod Examples
