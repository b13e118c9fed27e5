pub mod Outcomes
pub mod Nexts
pub mod Lasts
pub mod Ends
pub mod Literals
pub mod Readings
