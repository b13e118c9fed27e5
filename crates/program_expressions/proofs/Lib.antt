pub mod CollectedLemmas
mod Examples
