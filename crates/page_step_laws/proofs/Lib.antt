pub mod Opened
pub mod Held
pub mod Tokens
pub mod Decoded
