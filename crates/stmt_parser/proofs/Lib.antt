pub mod ActedLemmas
pub mod MoveLemmas
pub mod OtherLemmas
pub mod ReadLemmas
pub mod TestLemmas
pub mod PartLemmas
pub mod LiteralLemmas
pub mod ReaderLemmas
