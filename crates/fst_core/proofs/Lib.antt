pub mod ChoiceLemmas
pub mod LayerLemmas
pub mod RunLemmas
pub mod OfferLemmas
pub mod IndexLemmas
mod Examples
mod ItemExamples
pub mod Reading
pub mod Over
