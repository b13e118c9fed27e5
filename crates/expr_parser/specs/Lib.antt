pub mod Heads
pub mod Frames
pub mod Outcomes
pub mod Places
pub mod Leads
