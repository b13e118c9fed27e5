pub mod SizeLemmas
pub mod LoopLemmas
pub mod CappedLemmas
pub mod BodyLemmas
pub mod TableLemmas
pub mod LawfulLemmas
pub mod ProgramLemmas
pub mod StubLemmas
