pub mod Quotes
pub mod Over
pub mod Into
