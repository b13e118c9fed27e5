pub mod Kept
pub mod Short
pub mod Views
pub mod Answers
pub mod Site
pub mod Listed
pub mod Report
