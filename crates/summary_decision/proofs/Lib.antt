mod TakingExamples
pub mod UsingLemmas
pub mod BeginLemmas
pub mod TakeLemmas
pub mod RunLemmas
pub mod DecideLemmas
pub mod ClosedLemmas
mod Examples
pub mod KnownLemmas
pub mod MadeLemmas
pub mod TableLemmas
pub mod AddLemmas
pub mod TakenLemmas
pub mod JointLemmas
