pub mod LoadLemmas
pub mod MakeLemmas
pub mod Same
pub mod Walk
pub mod OneProgram
pub mod NotRefused
pub mod SmallProgram
