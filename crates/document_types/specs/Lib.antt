pub mod DocumentTypes
pub mod OneFile
pub mod Strict
