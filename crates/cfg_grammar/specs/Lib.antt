pub mod Below
pub mod Bytes
pub mod Derives
pub mod Tokens
