pub mod ListLemmas
pub mod ReachLemmas
pub mod PassLemmas
pub mod OpenLemmas
pub mod CloseLemmas
pub mod LabelLemmas
pub mod OrderListLemmas
pub mod WalkLemmas
