pub mod Order
pub mod View
pub mod Scripts
pub mod Source
pub mod Unread
pub mod Causes
pub mod Stubs
pub mod Steps
