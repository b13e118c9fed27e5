pub mod FrameLemmas
pub mod NextLemmas
pub mod ReaderLemmas
pub mod ItemLemmas
pub mod PlaceLemmas
pub mod MovedLemmas
pub mod HeadLemmas
pub mod ClimbLemmas
