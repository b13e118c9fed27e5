pub mod Bytes
pub mod Work
pub mod Fitting
pub mod Steps
pub mod Cycles
pub mod Texts
pub mod SystemBytes
