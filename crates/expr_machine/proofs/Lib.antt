pub mod Falls
pub mod EndFalls
pub mod Runs
