pub mod Defaults
pub mod Fits
pub mod Keyed
pub mod Texts
pub mod LeftOut
