pub mod Over
pub mod Doctypes
