pub mod OutputBytes
pub mod Simulated
