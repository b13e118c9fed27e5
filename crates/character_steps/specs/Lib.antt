pub mod Bytes
pub mod Encoded
