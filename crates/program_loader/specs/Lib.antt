pub mod Making
pub mod Causes
pub mod Told
