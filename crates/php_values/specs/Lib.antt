pub mod PlainCode
pub mod View
pub mod Falls
pub mod Index
pub mod Writes
