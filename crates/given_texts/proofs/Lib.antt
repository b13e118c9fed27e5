mod GivenExamples
pub mod Splits
mod Characters
mod ListLemmas
mod Means
mod Sound
mod Complete
mod Live
mod Lists
mod Closed
pub mod Kept
mod Joined
mod RequestClosed
pub mod Sizes
