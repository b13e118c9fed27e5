pub mod DraftLemmas
pub mod AnyLemmas
pub mod ImageLemmas
pub mod OnceLemmas
pub mod OrderLemmas
pub mod RuleLemmas
pub mod LetterLemmas
pub mod MovedLemmas
pub mod AnyLawLemmas
pub mod DraftLawLemmas
pub mod CompleteLemmas
pub mod MachineLemmas
pub mod StepLemmas
pub mod DraftedLemmas
mod Examples
