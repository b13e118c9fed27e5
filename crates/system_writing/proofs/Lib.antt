mod Examples
pub mod Places
pub mod Parts
pub mod Texts
pub mod Simulating
pub mod Same
pub mod Adding
pub mod Changing
pub mod Growing
mod EndLaws
pub mod RowLaws
pub mod Names
pub mod Begun
pub mod Finished
pub mod Below
pub mod Sizes
mod PutLemmas
