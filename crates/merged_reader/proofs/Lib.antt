pub mod Whole
pub mod Behind
mod Steps
pub mod GoingOn
mod Held
mod NumberMoves
mod Full
mod InMemory
pub mod Tokens
mod Examples
