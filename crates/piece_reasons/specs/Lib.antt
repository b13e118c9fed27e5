pub mod Spans
pub mod Openers
pub mod Tags
pub mod Causes
pub mod Sites
pub mod Doctypes
