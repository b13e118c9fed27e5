pub mod Follows
pub mod Work
pub mod Useful
pub mod Rules
pub mod Naming
pub mod Trimmed
