pub mod ByteLemmas
pub mod RunLemmas
pub mod Examples
