pub mod Outcomes
pub mod Rest
pub mod Weights
pub mod Moves
pub mod Frames
pub mod Cost
pub mod StatementMoves
