pub mod Arrivals
pub mod Heads
pub mod Steps
pub mod Rows
pub mod Returned
pub mod Handed
pub mod Tables
pub mod Found
