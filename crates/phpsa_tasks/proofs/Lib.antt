pub mod Faults
pub mod EmptyRequest
pub mod Defining
pub mod Loading
pub mod OneTask
pub mod ListLemmas
pub mod Alone
pub mod Held
pub mod Verdicts
pub mod Never
pub mod Nothing
pub mod NotRun
pub mod NotMatched
pub mod Answers
pub mod Soundness
pub mod Writing
pub mod Joining
mod SmallScript
mod Examples
