pub mod Outcomes
pub mod Whole
pub mod States
pub mod Narrowed
pub mod Within
