pub mod Written
pub mod Tested
pub mod Openers
pub mod Spelled
pub mod Causes
