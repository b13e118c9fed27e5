mod ReaderLemmas
mod SaysLemmas
pub mod ShowLemmas
pub mod PageLemmas
pub mod ShownLemmas
mod SmallDefinition
pub mod PolicyLemmas
pub mod ShortestLemmas
