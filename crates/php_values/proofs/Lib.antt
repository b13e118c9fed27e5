mod KeyLemmas
pub mod Places
mod DeepestLemmas
mod IndexLemmas
mod WalkLemmas
mod WriteLemmas
mod WriteLaws
