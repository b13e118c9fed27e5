pub mod Forms
pub mod Views
pub mod Collected
pub mod Places
pub mod Reading
pub mod Names
pub mod Links
