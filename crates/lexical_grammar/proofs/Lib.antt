pub mod CutLemmas
pub mod LexicalExamples
mod TemplateExamples
pub mod SpelledLemmas
pub mod FitLemmas
pub mod CutLaws
pub mod SignLaws
pub mod TextLaws
