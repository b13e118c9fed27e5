pub mod Telling
pub mod Bytes
pub mod Coarse
pub mod LooseTags
pub mod References
pub mod Pieces
pub mod Ending
mod Characters
mod Loosened
