pub mod Reserved
pub mod Targets
