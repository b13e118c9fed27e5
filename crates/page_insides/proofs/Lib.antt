pub mod Settled
pub mod Stepping
pub mod Leaves
pub mod References
