pub mod Alone
pub mod BuiltInText
pub mod OneTable
pub mod TableStays
pub mod ForMemory
pub mod Length
mod Examples
