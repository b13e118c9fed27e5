pub mod First
pub mod Openers
