pub mod CopyLemmas
pub mod FoldLemmas
pub mod CallLemmas
