pub mod Words
pub mod Files
pub mod Views
pub mod Calls
pub mod Lines
pub mod Listing
pub mod Telling
pub mod Endings
