pub mod Digits
pub mod Rows
pub mod Steps
pub mod Given
pub mod Commands
pub mod Asking
pub mod Asks
mod Examples
