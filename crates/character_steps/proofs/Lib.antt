pub mod Begun
pub mod Encoding
mod Examples
