pub mod Names
pub mod Fits
