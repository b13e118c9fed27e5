pub mod Reading
pub mod Mirrors
