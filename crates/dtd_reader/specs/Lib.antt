pub mod SoFar
pub mod Source
pub mod Views
pub mod Causes
pub mod Answers
pub mod Refusals
pub mod Certain
pub mod Choices
