pub mod Examples
mod FrontExamples
pub mod ScanLemmas
pub mod UntilLemmas
pub mod AttributeLemmas
pub mod ReadLemmas
pub mod SoundLemmas
pub mod CutLemmas
pub mod Names
pub mod ToTrees
pub mod FromTrees
pub mod Encoding
pub mod Whole
pub mod Appended
pub mod Once
pub mod ByTokens
pub mod LawExamples
