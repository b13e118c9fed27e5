pub mod Sets
pub mod Joined
pub mod Rows
pub mod Alike
pub mod Fit
pub mod Written
