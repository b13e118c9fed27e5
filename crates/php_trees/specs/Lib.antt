pub mod Kinds
pub mod Values
pub mod Actions
pub mod Rules
pub mod Reads
