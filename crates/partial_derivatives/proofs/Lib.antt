pub mod Joined
pub mod Fits
pub mod Behind
pub mod InTurn
pub mod Alike
pub mod Rows
