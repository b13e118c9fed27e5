pub mod VariablesCode
pub mod VariablesView
pub mod Frames
pub mod Cost
pub mod Moves
