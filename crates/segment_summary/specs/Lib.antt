pub mod Decided
pub mod Equal
pub mod Laws
pub mod Meeting
pub mod Parts
pub mod View
