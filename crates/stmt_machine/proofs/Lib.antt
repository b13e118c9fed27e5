pub mod Falls
pub mod BehindFalls
pub mod Runs
