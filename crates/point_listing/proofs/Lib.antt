pub mod CollectLemmas
mod Examples
pub mod PlaceLemmas
pub mod Exact
pub mod ReadLemmas
pub mod Links
pub mod Handed
