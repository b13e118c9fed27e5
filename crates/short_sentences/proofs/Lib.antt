mod Examples
pub mod QueueLemmas
pub mod ClosedLemmas
pub mod DraftLemmas
pub mod MadeLemmas
pub mod TableLemmas
pub mod JointLemmas
pub mod GiveLemmas
pub mod BeginLemmas
pub mod SettleLemmas
pub mod DrawLemmas
pub mod RunLemmas
pub mod NoteLemmas
