pub mod Lawful
pub mod Matches
pub mod Mini
pub mod References
pub mod Table
pub mod TableOf
