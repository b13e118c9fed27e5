pub mod Open
pub mod Spelled
