pub mod Encodings
pub mod Front
pub mod Joined
pub mod OfText
