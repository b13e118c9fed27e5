pub mod StepLemmas
pub mod TreeLemmas
pub mod PageLemmas
pub mod WholeLemmas
