pub mod Members
pub mod Outcome
pub mod Words
pub mod Views
pub mod Reading
