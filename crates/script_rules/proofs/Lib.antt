pub mod Judged
pub mod Whole
pub mod High
pub mod Either
