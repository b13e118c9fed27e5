pub mod Bytes
mod Leads
pub mod Scanning
pub mod Within
pub mod Lawful
pub mod Counted
