pub mod Causes
pub mod Spelled
pub mod Updates
pub mod Views
